use Rattle.std.proofs.Common.{arith, ◌≡◌, ◌+◌, ◌-◌, ◌≤◌, ◌++◌, ◌∙◌, ◌⊎◌, inl, inr, List, ℕ, length, ap, replicate, vec_len}
use Rattle.std.proofs.lemmas.List.{take_all, length-replicate}
use Rattle.gu_write_parts.proofs.Sizes.{leaves}
use Rattle.gu_write_parts.proofs.room.leave_size.Goals as goal
use Rattle.gu_write_parts.proofs.room.leave_size.Goals.{then-len, else-len}

pub returns : goal.returns
returns c =
    let old = c.args.out.now.items in
    let room = c.if-len.room in
    let end : ℕ = c.len-2.result + room in
    let gap : List ℕ = replicate (end - length old) 0 in
    let fits : length old ≤ end = omega (arith, c.len-2.ensures, c.args.out.now.ok) in
    let rest : end - length old ≡ room = omega (arith, c.len-2.ensures, c.args.out.now.ok) in
    let which : ((room ≡ 4) × (length old ≤ 134217728)) ⊎ (room ≡ 1) = elim c.if-len.branch [
      | then-len w ↦ inl (omega (arith, w.room-is), omega (arith, w.if-len, c.len.ensures, c.args.out.now.ok))
      | else-len w ↦ inr (omega (arith, w.room-is))
    ] in
    let items : c.resize.new.self.items ≡ old ++ gap = c.in_ok-resize.ensures.items ∙ ap (λ xs. xs ++ replicate (end - vec_len c.args.out.now) 0) (take_all end old fits) ∙ ap (λ n. old ++ replicate (end - n) 0) c.args.out.now.ok.0 in
    leaves old c.resize.new.self.items gap room items (length-replicate (end - length old) 0 ∙ rest) which
