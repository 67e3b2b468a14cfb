use Rattle.std.proofs.Common.{arith, suc, ◌≡◌, ◌+◌, ◌-◌, ◌++◌, ◌∙◌, List, ℕ, length, take, sym, ap, subst, get_or}
use Rattle.std.proofs.Math.Seq.{take-suc, take-length}
use Rattle.gu_bytes.specs.Numbers.{least_unsigned}
use Rattle.gu_write_parts.proofs.Sizes.{Filling, filling_begins, filling_on, filling_inside, filling_less, filling_ends}
use Rattle.gu_write_parts.proofs.room.fill_long.Goals as goal

pub bytes-init : goal.bytes-init
bytes-init c = filling_begins c.args.out.now.items c.args.place c.args.room c.requires

pub put_at-requires : goal.put_at-requires
put_at-requires c = filling_inside c.args.out.now.items _ c.bytes.out.items c.args.place c.args.room c.bytes.at c.bytes.left c.bytes.invariant

pub overflow_add-at : goal.overflow_add-at
overflow_add-at c = omega (arith, filling_inside c.args.out.now.items _ c.bytes.out.items c.args.place c.args.room c.bytes.at c.bytes.left c.bytes.invariant, c.bytes.out.ok, c.bytes.out.small)

pub bytes-preserved : goal.bytes-preserved
bytes-preserved c =
    let bytes = c.as_slice-byte-items.result.now in
    let old = c.args.out.now.items in
    let more = take-suc bytes c.bytes.byte-index 0 (omega arith) in
    let on = filling_on old (take c.bytes.byte-index bytes) c.bytes.out.items c.put_at.new.out.items c.args.place c.args.room c.bytes.at c.bytes.left (get_or bytes c.bytes.byte-index 0) c.in_ok-left.left c.bytes.invariant c.in_ok-left.ensures in
    let F : List ℕ → Type 0 = λ done. Filling old c.args.place c.args.room done c.put_at.new.out.items (c.bytes.at + 1) c.in_ok-left.left in
    let next : suc c.bytes.byte-index ≡ c.bytes.byte-index + 1 = omega arith in
    subst F (sym more ∙ ap (λ k. take k bytes) next) on

pub left-init : goal.left-init
left-init c =
    let bytes = c.as_slice-byte-items.result.now in
    let F : List ℕ → Type 0 = λ done. Filling c.args.out.now.items c.args.place c.args.room done c.bytes.out.items c.bytes.at c.bytes.left in
    let end : c.bytes.byte-index ≡ length bytes = omega arith in
    subst F (ap (λ k. take k bytes) end ∙ take-length bytes ∙ c.as_slice-byte-items.ensures.value) c.bytes.invariant

pub remove-requires : goal.remove-requires
remove-requires c =
    let inside = filling_inside c.args.out.now.items _ c.left.out.items c.args.place c.args.room c.bytes.at c.left.left c.left.invariant in
    omega (arith, inside, c.left.out.ok)

pub left-preserved : goal.left-preserved
left-preserved c =
    let F : ℕ → Type 0 = λ left. Filling c.args.out.now.items c.args.place c.args.room c.put_size.new.out.items c.left.out.items c.bytes.at left in
    let one : c.left.left ≡ (c.left.left - 1) + 1 = omega arith in
    filling_less c.args.out.now.items c.put_size.new.out.items c.left.out.items c.remove.new.self.items c.args.place c.args.room c.bytes.at (c.left.left - 1) (subst F one c.left.invariant) c.remove.ensures.by_index.2

pub returns : goal.returns
returns c =
    let F : List ℕ → Type 0 = λ done. Filling c.args.out.now.items c.args.place c.args.room done c.left.out.items c.bytes.at c.left.left in
    let size : ℕ = c.len.result - c.args.place - c.args.room in
    let long : size ≡ length c.args.out.now.items - c.args.place - c.args.room = omega (arith, c.len.ensures, c.args.out.now.ok) in
    let bytes : c.put_size.new.out.items ≡ least_unsigned size = c.in_ok-put_size.ensures ∙ ap (λ xs. xs ++ least_unsigned size) c.new-bytes.ensures.items in
    filling_ends c.args.out.now.items c.left.out.items c.args.place c.args.room c.bytes.at c.left.left size c.requires long (omega arith) (subst F bytes c.left.invariant)
