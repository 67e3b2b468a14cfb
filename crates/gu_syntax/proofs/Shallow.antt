-- Reading where fewer blocks may be open reads what is nested no deeper.
use Rattle.std.proofs.Common.{ℕ, zero, suc, ◌+◌, ◌≤◌, List, [], ◌∷◌, ◌≡◌, refl, ap, ◌∙◌, sym, subst, length, arith, nat_eq, nat_lt, Bool, true, false, cond, inl, inr, Option, None, take, drop}
use Rattle.std.specs.List.{AllByRecursion}
use Rattle.std.proofs.lemmas.Bool.{cases_Bool, cond-true, cond-false}
use Rattle.gu_syntax.specs.Code.{Ins, Code, leaf, block, loop, choice, try_table, done, code_of, list_of}
use Rattle.gu_syntax.specs.declared.instr.BlockType.{BlockType}
use Rattle.gu_syntax.specs.declared.instr.Body.{Body}
use Rattle.gu_syntax.specs.declared.instr.Catch.{Catch}
use Rattle.gu_syntax.specs.declared.module.Module.{Module}
use Rattle.gu_syntax.specs.Module.{Spells, header, Custom}
use Rattle.gu_syntax.specs.Nesting.{NestsWithin, NestsIns, NestsBody, NestsElem, NestsSeg, NestsTable, NestsGlobal, NestsFunc, IsShallow}
use Rattle.gu_syntax.specs.Reading.{Item, Opcode, FlatOpcode, Read, got, refused, ◌>>=◌, made_at, both_at, headed_at, none_at, vector_at, block_type_at, catch_at, leaf_at, opened, Nested, block_at, second_at, if_at, try_at, ins_at, next_of, next_at, until_head, until_at, body_of, body_at, Fixed, Number, Size, TypeStart, HeaderByte, then_at, u32_as, u32_at, numbered_at, rows_at, after, fixed_at, items_at, whole, content_at, sized_at, bytes_at, ref_head, ref_at, val_at, mutable_at, limits_at, table_of, filled_of, table_head, table_at, tag_at, global_of, global_at, funcs_at, kind_funcs_at, exprs_at, elem_rows, elem_at, seg_rows, seg_at, locals_at, entry_of, entry_at, func_at, entries_at, bodies_at, agrees, segs_at, customs_at, section_at, list_at, some, import_at, group_at, export_at, Late, late_at, Middle, middle_at, All, all_at, module_of, is_due, end_at, sections_at, module_at}
use Rattle.gu_syntax.specs.declared.module.Elem.{Elem}
use Rattle.gu_syntax.specs.declared.module.Export.{Export}
use Rattle.gu_syntax.specs.declared.module.Func.{Func}
use Rattle.gu_syntax.specs.declared.module.Global.{Global}
use Rattle.gu_syntax.specs.declared.module.Limits.{Limits}
use Rattle.gu_syntax.specs.declared.module.Seg.{Seg}
use Rattle.gu_syntax.specs.declared.module.Table.{Table}
use Rattle.gu_syntax.specs.Due.{NestsTooDeep}
use Rattle.gu_syntax.proofs.Decodes.{bind_got, value_is, got-stops, refused-got, whole_got}
use Rattle.gu_syntax.proofs.Expressions.{Ended, until_decodes, tree_back}
use Rattle.gu_syntax.proofs.Modules.{module_again}
use Rattle.gu_syntax.proofs.Narrow.{wide}

-- what q reads and D takes, p reads too
unfoldable pub Keeps : {X : Type 0} → (X → Type 0) → (List ℕ → Read X) → (List ℕ → Read X) → Type 0
Keeps {X} D p q = (text rest : List ℕ) (x : X) → q text ≡ got x rest → D x → p text ≡ got x rest

pub keep_bind : {X Y : Type 0} (r s : Read X) (f g : X → List ℕ → Read Y) (y : Y) (rest : List ℕ) → (s >>= g) ≡ got y rest → ((x : X) (mid : List ℕ) → s ≡ got x mid → g x mid ≡ got y rest → (r ≡ got x mid) × (f x mid ≡ got y rest)) → (r >>= f) ≡ got y rest
keep_bind {X} r s f g y rest h k =
    let b = bind_got s g y rest h in
    let e = k b.0 b.1 b.2 b.3 in
    ap (λ (t : Read X). t >>= f) e.0 ∙ e.1

pub keep_equal : {X : Type 0} (D : X → Type 0) (p : List ℕ → Read X) → Keeps D p p
unfolding Keeps
keep_equal D p text rest x h d = h

pub keep_made : {X Y : Type 0} (D : Y → Type 0) (E : X → Type 0) (make : X → Y) (p q : List ℕ → Read X) → ((x : X) → D (make x) → E x) → Keeps E p q → Keeps D (made_at make p) (made_at make q)
unfolding Keeps
keep_made D E make p q f h text rest y g d = keep_bind (p text) (q text) (λ x behind. got (make x) behind) (λ x behind. got (make x) behind) y rest g (λ x mid s e. (h text mid x s (f x (subst D (sym (value_is (make x) y mid rest e)) d)), e))

pub keep_both : {X Y : Type 0} (D : X → Type 0) (E : Y → Type 0) (p p' : List ℕ → Read X) (q q' : List ℕ → Read Y) → Keeps D p p' → Keeps E q q' → Keeps (λ xy. D xy.0 × E xy.1) (both_at p q) (both_at p' q')
unfolding Keeps
keep_both {X} {Y} D E p p' q q' h k text rest xy g d = keep_bind (p text) (p' text) (λ x more. q more >>= λ y behind. got (x, y) behind) (λ x more. q' more >>= λ y behind. got (x, y) behind) xy rest g (λ x mid s e.
    let b = bind_got (q' mid) (λ y behind. got (x, y) behind) xy rest e in
    let same : (x, b.0) ≡ xy = value_is (x, b.0) xy b.1 rest b.3 in
    let D' : X × Y → Type 0 = λ z. D z.0 in
    let E' : X × Y → Type 0 = λ z. E z.1 in
    (h text mid x s (subst D' (sym same) d.0), ap (λ (t : Read Y). t >>= λ y behind. got (x, y) behind) (k mid b.1 b.0 b.2 (subst E' (sym same) d.1)) ∙ b.3))

pub keep_row : {X : Type 0} (D : X → Type 0) (test : Bool) (p q p' q' : List ℕ → Read X) → Keeps D p p' → Keeps D q q' → Keeps D (cond test p q) (cond test p' q')
keep_row D true p q p' q' a b = a
keep_row D false p q p' q' a b = b

pub keep_headed : {X : Type 0} (D : X → Type 0) (item : Item) (d e : ℕ → ℕ → List ℕ → Read X) → ((left c : ℕ) → Keeps D (d left c) (e left c)) → Keeps D (headed_at item d) (headed_at item e)
unfolding Keeps
keep_headed D item d e h [] rest x g k = absurd (refused-got item 0 x rest g)
keep_headed D item d e h (b ∷ text) rest x g k = h (suc (length text)) b text rest x g k

-- expressions

abbrev pub Within : ℕ → Code × Bool → Type 0
Within room x = NestsWithin room x.0

suc_is : (a b : ℕ) → suc a ≡ suc b → a ≡ b
suc_is a b h = omega (arith, h)

zero_not : (a : ℕ) → 0 ≡ suc a → ⊥
zero_not a h = omega (arith, h)

-- blocks: what is inside is nested as the instruction says
keep_block : (make : BlockType → Code → Ins) (D : Ins → Type 0) (E : Code → Type 0) (p q : List ℕ → Read (Code × Bool)) → ((ty : BlockType) (code : Code) → D (make ty code) → E code) → Keeps (λ x. E x.0) p q → Keeps D (block_at make p) (block_at make q)
unfolding Keeps
keep_block make D E p q f h text rest ins g d = keep_bind (block_type_at text) (block_type_at text) (λ ty more. p more >>= λ code behind. got (make ty code.0) behind) (λ ty more. q more >>= λ code behind. got (make ty code.0) behind) ins rest g (λ ty mid s e. (s, keep_made D (λ x. E x.0) (λ code. make ty code.0) p q (λ x k. f ty x.0 k) h mid rest ins e d))

keep_second : (D : Ins → Type 0) (E : Code → Type 0) (ty : BlockType) (p q : List ℕ → Read (Code × Bool)) (one : Code × Bool) → ((other : Code) → D (choice ty one.0 other) → E other) → Keeps (λ x. E x.0) p q → Keeps D (second_at ty p one) (second_at ty q one)
keep_second D E ty p q (one, true) f h = keep_made D (λ x. E x.0) (λ other. choice ty one other.0) p q (λ x k. f x.0 k) h
keep_second D E ty p q (one, false) f h = keep_equal D (none_at (choice ty one done))

-- what the first branch is, from the whole
first_is : (ty : BlockType) (q : List ℕ → Read (Code × Bool)) (one : Code × Bool) (text rest : List ℕ) (ins : Ins) → second_at ty q one text ≡ got ins rest → (other : Code) × (choice ty one.0 other ≡ ins)
first_is ty q (one, true) text rest ins h = let b = bind_got (q text) (λ other behind. got (choice ty one other.0) behind) ins rest h in (b.0.0, value_is (choice ty one b.0.0) ins b.1 rest b.3)
first_is ty q (one, false) text rest ins h = (done, value_is (choice ty one done) ins text rest h)

keep_if : (D : Ins → Type 0) (E : Code → Type 0) (p q p' q' : List ℕ → Read (Code × Bool)) → ((ty : BlockType) (one other : Code) → D (choice ty one other) → E one × E other) → Keeps (λ x. E x.0) p p' → Keeps (λ x. E x.0) q q' → Keeps D (if_at p q) (if_at p' q')
unfolding Keeps
keep_if D E p q p' q' f h k text rest ins g d = keep_bind (block_type_at text) (block_type_at text) (λ ty more. p more >>= λ one middle. second_at ty q one middle) (λ ty more. p' more >>= λ one middle. second_at ty q' one middle) ins rest g (λ ty mid s e. (
  s,
  keep_bind (p mid) (p' mid) (λ one middle. second_at ty q one middle) (λ one middle. second_at ty q' one middle) ins rest e (λ one middle t u.
      let w = first_is ty q' one middle rest ins u in
      (h mid middle one t (f ty one.0 w.0 (subst D (sym w.1) d)).0, keep_second D E ty q q' one (λ other c. (f ty one.0 other c).1) k middle rest ins u d)),
))

keep_try : (D : Ins → Type 0) (E : Code → Type 0) (p q : List ℕ → Read (Code × Bool)) → ((ty : BlockType) (catches : List Catch) (code : Code) → D (try_table ty catches code) → E code) → Keeps (λ x. E x.0) p q → Keeps D (try_at p) (try_at q)
unfolding Keeps
keep_try D E p q f h text rest ins g d = keep_bind (block_type_at text) (block_type_at text) (λ ty more. vector_at catch_at more >>= λ catches middle. p middle >>= λ code behind. got (try_table ty catches code.0) behind) (λ ty more. vector_at catch_at more >>= λ catches middle. q middle >>= λ code behind. got (try_table ty catches code.0) behind) ins rest g (λ ty mid s e. (
  s,
  keep_bind (vector_at catch_at mid) (vector_at catch_at mid) (λ catches middle. p middle >>= λ code behind. got (try_table ty catches code.0) behind) (λ catches middle. q middle >>= λ code behind. got (try_table ty catches code.0) behind) ins rest e (λ catches middle t u. (t, keep_made D (λ x. E x.0) (λ code. try_table ty catches code.0) p q (λ x c. f ty catches x.0 c) h middle rest ins u d)),
))

-- where a block is opened: an instruction that opens one has room
keep_opened : (D : ℕ → Ins → Type 0) (room more left : ℕ) (p q : ℕ → List ℕ → Read Ins) → room ≤ more → ((high : ℕ) (text rest : List ℕ) (ins : Ins) → q high text ≡ got ins rest → D 0 ins → ⊥) → ((low high : ℕ) → low ≤ high → Keeps (D (suc low)) (p low) (q high)) → Keeps (D room) (opened room p left) (opened more q left)
unfolding Keeps
keep_opened D zero zero left p q fits none keep text rest ins g d = absurd (refused-got FlatOpcode left ins rest g)
keep_opened D zero (suc more) left p q fits none keep text rest ins g d = absurd (none more text rest ins g d)
keep_opened D (suc room) zero left p q fits none keep text rest ins g d = absurd (omega (arith, fits))
keep_opened D (suc room) (suc more) left p q fits none keep text rest ins g d = keep room more (omega (arith, fits)) text rest ins g d

lower_of : (low l : ℕ) (code : Code) → suc low ≡ suc l → NestsWithin l code → NestsWithin low code
lower_of low l code same n = let P : ℕ → Type 0 = λ k. NestsWithin k code in subst P (sym (suc_is low l same)) n

abbrev Inner : Nested → Nested → Type 0
Inner p q = (low high : ℕ) (split : Bool) → low ≤ high → Keeps (Within low) (p low split) (q high split)

block_none : (make : BlockType → Code → Ins) (q : List ℕ → Read (Code × Bool)) (text rest : List ℕ) (ins : Ins) → ((ty : BlockType) (code : Code) → NestsIns 0 (make ty code) → ⊥) → block_at make q text ≡ got ins rest → NestsIns 0 ins → ⊥
block_none make q text rest ins f g d =
    let b = bind_got (block_type_at text) (λ ty more. q more >>= λ code behind. got (make ty code.0) behind) ins rest g in
    let c = bind_got (q b.1) (λ code behind. got (make b.0 code.0) behind) ins rest b.3 in
    let P : Ins → Type 0 = λ i. NestsIns 0 i in
    f b.0 c.0.0 (subst P (sym (value_is (make b.0 c.0.0) ins c.1 rest c.3)) d)

if_none : (p q : List ℕ → Read (Code × Bool)) (text rest : List ℕ) (ins : Ins) → if_at p q text ≡ got ins rest → NestsIns 0 ins → ⊥
if_none p q text rest ins g d =
    let b = bind_got (block_type_at text) (λ ty more. p more >>= λ one middle. second_at ty q one middle) ins rest g in
    let c = bind_got (p b.1) (λ one middle. second_at b.0 q one middle) ins rest b.3 in
    let w = first_is b.0 q c.0 c.1 rest ins c.3 in
    let P : Ins → Type 0 = λ i. NestsIns 0 i in
    let n : NestsIns 0 (choice b.0 c.0.0 w.0) = subst P (sym w.1) d in
    zero_not n.0 n.1

try_none : (q : List ℕ → Read (Code × Bool)) (text rest : List ℕ) (ins : Ins) → try_at q text ≡ got ins rest → NestsIns 0 ins → ⊥
try_none q text rest ins g d =
    let b = bind_got (block_type_at text) (λ ty more. vector_at catch_at more >>= λ catches middle. q middle >>= λ code behind. got (try_table ty catches code.0) behind) ins rest g in
    let c = bind_got (vector_at catch_at b.1) (λ catches middle. q middle >>= λ code behind. got (try_table b.0 catches code.0) behind) ins rest b.3 in
    let e = bind_got (q c.1) (λ code behind. got (try_table b.0 c.0 code.0) behind) ins rest c.3 in
    let P : Ins → Type 0 = λ i. NestsIns 0 i in
    let n : NestsIns 0 (try_table b.0 c.0 e.0.0) = subst P (sym (value_is (try_table b.0 c.0 e.0.0) ins e.1 rest e.3)) d in
    zero_not n.0 n.1

keep_ins : (p q : Nested) (room more left op : ℕ) → room ≤ more → Inner p q → Keeps (NestsIns room) (ins_at p room left op) (ins_at q more left op)
keep_ins p q room more left op fits h =
    let D : ℕ → Ins → Type 0 = NestsIns in
    let other = made_at leaf (leaf_at left op) in
    let a1 = opened room (λ lower rest. block_at block (p lower false) rest) left in
    let b1 = opened more (λ lower rest. block_at block (q lower false) rest) left in
    let a2 = opened room (λ lower rest. block_at loop (p lower false) rest) left in
    let b2 = opened more (λ lower rest. block_at loop (q lower false) rest) left in
    let a3 = opened room (λ lower rest. if_at (p lower true) (p lower false) rest) left in
    let b3 = opened more (λ lower rest. if_at (q lower true) (q lower false) rest) left in
    let a4 = opened room (λ lower rest. try_at (p lower false) rest) left in
    let b4 = opened more (λ lower rest. try_at (q lower false) rest) left in
    let c4 = cond (nat_eq op 0x1F) a4 other in
    let d4 = cond (nat_eq op 0x1F) b4 other in
    let c3 = cond (nat_eq op 0x04) a3 c4 in
    let d3 = cond (nat_eq op 0x04) b3 d4 in
    let c2 = cond (nat_eq op 0x03) a2 c3 in
    let d2 = cond (nat_eq op 0x03) b2 d3 in
    keep_row (NestsIns room) (nat_eq op 0x02) a1 c2 b1 d2 (keep_opened D room more left (λ lower rest. block_at block (p lower false) rest) (λ lower rest. block_at block (q lower false) rest) fits (λ high text rest ins g d. block_none block (q high false) text rest ins (λ ty code n. zero_not n.0 n.1) g d) (λ low high k. keep_block block (NestsIns (suc low)) (NestsWithin low) (p low false) (q high false) (λ ty code n. lower_of low n.0 code n.1 n.2) (h low high false k)))
    (keep_row (NestsIns room) (nat_eq op 0x03) a2 c3 b2 d3 (keep_opened D room more left (λ lower rest. block_at loop (p lower false) rest) (λ lower rest. block_at loop (q lower false) rest) fits (λ high text rest ins g d. block_none loop (q high false) text rest ins (λ ty code n. zero_not n.0 n.1) g d) (λ low high k. keep_block loop (NestsIns (suc low)) (NestsWithin low) (p low false) (q high false) (λ ty code n. lower_of low n.0 code n.1 n.2) (h low high false k)))
    (keep_row (NestsIns room) (nat_eq op 0x04) a3 c4 b3 d4 (keep_opened D room more left (λ lower rest. if_at (p lower true) (p lower false) rest) (λ lower rest. if_at (q lower true) (q lower false) rest) fits (λ high text rest ins g d. if_none (q high true) (q high false) text rest ins g d) (λ low high k. keep_if (NestsIns (suc low)) (NestsWithin low) (p low true) (p low false) (q high true) (q high false) (λ ty one second n. (lower_of low n.0 one n.1 n.2, lower_of low n.0 second n.1 n.3)) (h low high true k) (h low high false k)))
    (keep_row (NestsIns room) (nat_eq op 0x1F) a4 other b4 other (keep_opened D room more left (λ lower rest. try_at (p lower false) rest) (λ lower rest. try_at (q lower false) rest) fits (λ high text rest ins g d. try_none (q high false) text rest ins g d) (λ low high k. keep_try (NestsIns (suc low)) (NestsWithin low) (p low false) (q high false) (λ ty catches code n. lower_of low n.0 code n.1 n.2) (h low high false k)))
    (keep_equal (NestsIns room) other))))

keep_next : (p q : Nested) (room more : ℕ) (split : Bool) (left op : ℕ) → room ≤ more → Inner p q → Keeps (Within room) (next_at p room split left op) (next_at q more split left op)
unfolding Keeps
keep_next p q room more split left op fits h text rest x g d = keep_bind (ins_at p room left op text) (ins_at q more left op text) (λ ins mid. made_at (next_of ins) (p room split) mid) (λ ins mid. made_at (next_of ins) (q more split) mid) x rest g (λ ins mid s e.
    let b = bind_got (q more split mid) (λ code behind. got (next_of ins code) behind) x rest e in
    let n : Within room (next_of ins b.0) = subst (Within room) (sym (value_is (next_of ins b.0) x b.1 rest b.3)) d in
    (keep_ins p q room more left op fits h text mid ins s n.0, keep_made (Within room) (Within room) (next_of ins) (p room split) (q more split) (λ y k. k.1) (h room more split fits) mid rest x e d))

keep_head : (p q : Nested) (room more : ℕ) (split : Bool) (left op : ℕ) → room ≤ more → Inner p q → Keeps (Within room) (until_head p room split left op) (until_head q more split left op)
keep_head p q room more false left op fits h = keep_row (Within room) (nat_eq op 0x0B) (none_at (done, false)) (next_at p room false left op) (none_at (done, false)) (next_at q more false left op) (keep_equal (Within room) (none_at (done, false))) (keep_next p q room more false left op fits h)
keep_head p q room more true left op fits h =
    let a = cond (nat_eq op 0x05) (none_at (done, true)) (next_at p room true left op) in
    let b = cond (nat_eq op 0x05) (none_at (done, true)) (next_at q more true left op) in
    keep_row (Within room) (nat_eq op 0x0B) (none_at (done, false)) a (none_at (done, false)) b (keep_equal (Within room) (none_at (done, false)))
    (keep_row (Within room) (nat_eq op 0x05) (none_at (done, true)) (next_at p room true left op) (none_at (done, true)) (next_at q more true left op) (keep_equal (Within room) (none_at (done, true))) (keep_next p q room more true left op fits h))

keep_until : (fuel room more : ℕ) (split : Bool) → room ≤ more → Keeps (Within room) (until_at fuel room split) (until_at fuel more split)
unfolding Keeps
keep_until zero room more split fits text rest x g d = absurd (refused-got Opcode (length text) x rest g)
keep_until (suc fuel) room more split fits text rest x g d =
    let p : Nested = λ lower sp t. until_at fuel lower sp t in
    let inner : (low high : ℕ) (sp : Bool) → low ≤ high → Keeps (Within low) (p low sp) (p high sp) = λ low high sp k. keep_until fuel low high sp k in
    keep_headed (Within room) Opcode (until_head p room split) (until_head p more split) (λ left op. keep_head p p room more split left op fits inner) text rest x g d

-- bodies

split_not : false ≡ true → ⊥
split_not h = cc

pub read_back : (fuel more : ℕ) (text mid : List ℕ) (x : Code × Bool) → until_at fuel more false text ≡ got x mid → code_of (list_of x.0) ≡ x.0
unfolding Ended
read_back fuel more text mid x h =
    let t = (until_decodes fuel more 0 false (omega arith) (omega arith)).taken text mid x h in
    elim t.spells [
      | inl k ↦ tree_back x.0 0x0B t.front k.1
      | inr k ↦ absurd (split_not k.0)
    ]

keep_body : (room more : ℕ) → room ≤ more → Keeps (NestsBody room) (body_at room) (body_at more)
unfolding Keeps
keep_body room more fits text rest body g d =
    let fuel = suc (length text) in
    keep_bind (until_at fuel room false text) (until_at fuel more false text) (λ x mid. got (body_of x) mid) (λ x mid. got (body_of x) mid) body rest g (λ x mid s e.
    let n : NestsBody room (body_of x) = subst (NestsBody room) (sym (value_is (body_of x) body mid rest e)) d in
    (keep_until fuel room more false fits text mid x s (subst (NestsWithin room) (read_back fuel more text mid x s) n), e))

-- ways to read

abbrev pub Any : {X : Type 0} → X → Type 0
Any x = Unit {0}

keep_any : {X : Type 0} (p : List ℕ → Read X) → Keeps (Any {X = X}) p p
keep_any {X} p = keep_equal (Any {X = X}) p

keep_then : {X Y : Type 0} (D : X → Type 0) (E : Y → Type 0) (p p' : List ℕ → Read X) (q q' : X → List ℕ → Read Y) → Keeps D p p' → ((x : X) → Keeps E (q x) (q' x)) → Keeps (λ xy. D xy.0 × E xy.1) (then_at p q) (then_at p' q')
unfolding Keeps
keep_then {X} {Y} D E p p' q q' h k text rest xy g d = keep_bind (p text) (p' text) (λ x more. q x more >>= λ y behind. got (x, y) behind) (λ x more. q' x more >>= λ y behind. got (x, y) behind) xy rest g (λ x mid s e.
    let b = bind_got (q' x mid) (λ y behind. got (x, y) behind) xy rest e in
    let same : (x, b.0) ≡ xy = value_is (x, b.0) xy b.1 rest b.3 in
    let D' : X × Y → Type 0 = λ z. D z.0 in
    let E' : X × Y → Type 0 = λ z. E z.1 in
    (h text mid x s (subst D' (sym same) d.0), ap (λ (t : Read Y). t >>= λ y behind. got (x, y) behind) (k x mid b.1 b.0 b.2 (subst E' (sym same) d.1)) ∙ b.3))

keep_items : {X : Type 0} (D : X → Type 0) (p q : List ℕ → Read X) → Keeps D p q → (n : ℕ) → Keeps (AllByRecursion D) (items_at p n) (items_at q n)
unfolding Keeps
keep_items D p q h zero text rest xs g d = g
keep_items {X} D p q h (suc n) text rest xs g d = keep_bind (p text) (q text) (λ x more. items_at p n more >>= λ ys behind. got (x ∷ ys) behind) (λ x more. items_at q n more >>= λ ys behind. got (x ∷ ys) behind) xs rest g (λ x mid s e.
    let b = bind_got (items_at q n mid) (λ ys behind. got (x ∷ ys) behind) xs rest e in
    let a : AllByRecursion D (x ∷ b.0) = subst (AllByRecursion D) (sym (value_is (x ∷ b.0) xs b.1 rest b.3)) d in
    (h text mid x s a.0, ap (λ (t : Read (List X)). t >>= λ ys behind. got (x ∷ ys) behind) (keep_items D p q h n mid b.1 b.0 b.2 a.1) ∙ b.3))

keep_vector : {X : Type 0} (D : X → Type 0) (p q : List ℕ → Read X) → Keeps D p q → Keeps (AllByRecursion D) (vector_at p) (vector_at q)
unfolding Keeps
keep_vector D p q h text rest xs g d = keep_bind (u32_at text) (u32_at text) (λ count more. items_at p count more) (λ count more. items_at q count more) xs rest g (λ count mid s e. (s, keep_items D p q h count mid rest xs e d))

keep_after : {X : Type 0} (D : X → Type 0) (item : Item) (byte : ℕ) (p q : List ℕ → Read X) → Keeps D p q → Keeps D (after item byte p) (after item byte q)
unfolding Keeps
keep_after D item byte p q h [] rest x g d = absurd (refused-got item 0 x rest g)
keep_after D item byte p q h (b ∷ text) rest x g d = elim (cases_Bool (nat_eq b byte)) [
  | inl is ↦ cond-true (nat_eq b byte) (p text) (refused item (length (b ∷ text))) is ∙ h text rest x (sym (cond-true (nat_eq b byte) (q text) (refused item (length (b ∷ text))) is) ∙ g) d
  | inr isnt ↦ absurd (refused-got item (length (b ∷ text)) x rest (sym (cond-false (nat_eq b byte) (q text) (refused item (length (b ∷ text))) isnt) ∙ g))
]

keep_numbered : {X : Type 0} (D : X → Type 0) (item : Item) (d e : ℕ → ℕ → List ℕ → Read X) → ((left c : ℕ) → Keeps D (d left c) (e left c)) → Keeps D (numbered_at item d) (numbered_at item e)
unfolding Keeps
keep_numbered D item d e h text rest x g k = keep_bind (u32_as item text) (u32_as item text) (λ n more. d (length text) n more) (λ n more. e (length text) n more) x rest g (λ n mid s t. (s, h (length text) n mid rest x t k))

keep_sized : {X : Type 0} (D : X → Type 0) (p q : List ℕ → Read X) → Keeps D p q → Keeps D (sized_at p) (sized_at q)
unfolding Keeps
keep_sized {X} D p q h text rest x g d = keep_bind (u32_as Size text) (u32_as Size text) (λ size more. content_at p (length text) size more) (λ size more. content_at q (length text) size more) x rest g (λ size mid s e. (
  s,
  elim (cases_Bool (nat_lt (length mid) size)) [
    | inl short ↦ absurd (refused-got Size (length text) x rest (sym (cond-true (nat_lt (length mid) size) (refused Size (length text)) (whole (drop size mid) (q (take size mid))) short) ∙ e))
    | inr enough ↦ (
        let w = whole_got (drop size mid) (q (take size mid)) x rest (sym (cond-false (nat_lt (length mid) size) (refused Size (length text)) (whole (drop size mid) (q (take size mid))) enough) ∙ e) in
        cond-false (nat_lt (length mid) size) (refused Size (length text)) (whole (drop size mid) (p (take size mid))) enough
        ∙ ap (λ (r : Read X). whole (drop size mid) r) (h (take size mid) [] x w.0 d)
        ∙ ap (λ (t : List ℕ). got x t) w.1)
  ],
))

abbrev RowsKeep : {X : Type 0} → (X → Type 0) → List (ℕ × (List ℕ → Read X)) → List (ℕ × (List ℕ → Read X)) → Type 0
RowsKeep D [] [] = Unit {0}
RowsKeep D (x ∷ xs) (y ∷ ys) = (x.0 ≡ y.0) × Keeps D x.1 y.1 × RowsKeep D xs ys
RowsKeep D _ _ = ⊥

keep_rows : {X : Type 0} (D : X → Type 0) (item : Item) (left code : ℕ) (xs ys : List (ℕ × (List ℕ → Read X))) → RowsKeep D xs ys → Keeps D (rows_at item xs left code) (rows_at item ys left code)
keep_rows D item left code [] [] h = keep_equal D (λ other. refused item left)
keep_rows {X} D item left code (x ∷ xs) (y ∷ ys) h =
    let P : ℕ → Type 0 = λ n. Keeps D (cond (nat_eq code x.0) x.1 (rows_at item xs left code)) (cond (nat_eq code n) y.1 (rows_at item ys left code)) in
    subst P h.0 (keep_row D (nat_eq code x.0) x.1 (rows_at item xs left code) y.1 (rows_at item ys left code) h.1 (keep_rows D item left code xs ys h.2))
keep_rows D item left code [] (y ∷ ys) h = absurd h
keep_rows D item left code (x ∷ xs) [] h = absurd h

-- items of sections

keep_tables : (room more : ℕ) → room ≤ more → Keeps (NestsTable room) (table_at room) (table_at more)
keep_tables room more fits =
    let D : Table → Type 0 = NestsTable room in
    keep_headed D TypeStart (table_head room) (table_head more) (λ left c.
    let a = both_at ref_at (both_at limits_at (body_at room)) in
    let b = both_at ref_at (both_at limits_at (body_at more)) in
    let other = made_at table_of (both_at (ref_head left c) limits_at) in
    keep_row D (nat_eq c 0x40) (after Fixed 0x00 (made_at filled_of a)) other (after Fixed 0x00 (made_at filled_of b)) other
    (keep_after D Fixed 0x00 (made_at filled_of a) (made_at filled_of b) (keep_made D (λ x. Any x.0 × (Any x.1.0 × NestsBody room x.1.1)) filled_of a b (λ x d. (tt, (tt, d))) (keep_both Any (λ x. Any x.0 × NestsBody room x.1) ref_at ref_at (both_at limits_at (body_at room)) (both_at limits_at (body_at more)) (keep_any ref_at) (keep_both Any (NestsBody room) limits_at limits_at (body_at room) (body_at more) (keep_any limits_at) (keep_body room more fits)))))
    (keep_equal D other))

keep_globals : (room more : ℕ) → room ≤ more → Keeps (NestsGlobal room) (global_at room) (global_at more)
keep_globals room more fits = keep_made (NestsGlobal room) (λ x. Any x.0 × (Any x.1.0 × NestsBody room x.1.1)) global_of (both_at val_at (both_at mutable_at (body_at room))) (both_at val_at (both_at mutable_at (body_at more))) (λ x d. (tt, (tt, d))) (keep_both Any (λ x. Any x.0 × NestsBody room x.1) val_at val_at (both_at mutable_at (body_at room)) (both_at mutable_at (body_at more)) (keep_any val_at) (keep_both Any (NestsBody room) mutable_at mutable_at (body_at room) (body_at more) (keep_any mutable_at) (keep_body room more fits)))

keep_exprs : (room more : ℕ) → room ≤ more → Keeps (AllByRecursion (NestsBody room)) (exprs_at room) (exprs_at more)
keep_exprs room more fits = keep_vector (NestsBody room) (body_at room) (body_at more) (keep_body room more fits)

keep_offset : {X : Type 0} (E : X → Type 0) (room more : ℕ) (p q : List ℕ → Read X) → room ≤ more → Keeps E p q → Keeps (λ x. NestsBody room x.0 × E x.1) (both_at (body_at room) p) (both_at (body_at more) q)
keep_offset E room more p q fits h = keep_both (NestsBody room) E (body_at room) (body_at more) p q (keep_body room more fits) h

keep_named : {X : Type 0} (E : X → Type 0) (room more : ℕ) (p q : List ℕ → Read X) → room ≤ more → Keeps E p q → Keeps (λ x. Any x.0 × (NestsBody room x.1.0 × E x.1.1)) (both_at u32_at (both_at (body_at room) p)) (both_at u32_at (both_at (body_at more) q))
keep_named E room more p q fits h = keep_both Any (λ x. NestsBody room x.0 × E x.1) u32_at u32_at (both_at (body_at room) p) (both_at (body_at more) q) (keep_any u32_at) (keep_offset E room more p q fits h)

keep_typed : (room more : ℕ) → room ≤ more → Keeps (λ x. Any x.0 × AllByRecursion (NestsBody room) x.1) (both_at ref_at (exprs_at room)) (both_at ref_at (exprs_at more))
keep_typed room more fits = keep_both Any (AllByRecursion (NestsBody room)) ref_at ref_at (exprs_at room) (exprs_at more) (keep_any ref_at) (keep_exprs room more fits)

keep_elems : (room more : ℕ) → room ≤ more → Keeps (NestsElem room) (elem_at room) (elem_at more)
keep_elems room more fits =
    let D : Elem → Type 0 = NestsElem room in
    let all : List Body → Type 0 = AllByRecursion (NestsBody room) in
    keep_numbered D Fixed (rows_at Fixed (elem_rows room)) (rows_at Fixed (elem_rows more)) (λ left code. keep_rows D Fixed left code (elem_rows room) (elem_rows more)
    ((
      refl,
      keep_made D (λ x. NestsBody room x.0 × Any x.1) _ (both_at (body_at room) funcs_at) (both_at (body_at more) funcs_at) (λ x d. (d.0, tt)) (keep_offset Any room more funcs_at funcs_at fits (keep_any funcs_at)),
      (
        refl,
        keep_equal D _,
        (
          refl,
          keep_made D (λ x. Any x.0 × (NestsBody room x.1.0 × Any x.1.1)) _ (both_at u32_at (both_at (body_at room) kind_funcs_at)) (both_at u32_at (both_at (body_at more) kind_funcs_at)) (λ x d. (tt, (d.0, tt))) (keep_named Any room more kind_funcs_at kind_funcs_at fits (keep_any kind_funcs_at)),
          (
            refl,
            keep_equal D _,
            (
              refl,
              keep_made D (λ x. NestsBody room x.0 × all x.1) _ (both_at (body_at room) (exprs_at room)) (both_at (body_at more) (exprs_at more)) (λ x d. (d.0, d.1)) (keep_offset all room more (exprs_at room) (exprs_at more) fits (keep_exprs room more fits)),
              (
                refl,
                keep_made D (λ x. Any x.0 × all x.1) _ (both_at ref_at (exprs_at room)) (both_at ref_at (exprs_at more)) (λ x d. (tt, d.1)) (keep_typed room more fits),
                (
                  refl,
                  keep_made D (λ x. Any x.0 × (NestsBody room x.1.0 × (Any x.1.1.0 × all x.1.1.1))) _ (both_at u32_at (both_at (body_at room) (both_at ref_at (exprs_at room)))) (both_at u32_at (both_at (body_at more) (both_at ref_at (exprs_at more)))) (λ x d. (tt, (d.0, (tt, d.1)))) (keep_named (λ x. Any x.0 × all x.1) room more (both_at ref_at (exprs_at room)) (both_at ref_at (exprs_at more)) fits (keep_typed room more fits)),
                  (refl, keep_made D (λ x. Any x.0 × all x.1) _ (both_at ref_at (exprs_at room)) (both_at ref_at (exprs_at more)) (λ x d. (tt, d.1)) (keep_typed room more fits), tt),
                ),
              ),
            ),
          ),
        ),
      ),
    )))

keep_segs : (room more : ℕ) → room ≤ more → Keeps (NestsSeg room) (seg_at room) (seg_at more)
keep_segs room more fits =
    let D : Seg → Type 0 = NestsSeg room in
    keep_numbered D Fixed (rows_at Fixed (seg_rows room)) (rows_at Fixed (seg_rows more)) (λ left code. keep_rows D Fixed left code (seg_rows room) (seg_rows more)
    ((
      refl,
      keep_made D (λ x. NestsBody room x.0 × Any x.1) _ (both_at (body_at room) bytes_at) (both_at (body_at more) bytes_at) (λ x d. (d, tt)) (keep_offset Any room more bytes_at bytes_at fits (keep_any bytes_at)),
      (
        refl,
        keep_equal D _,
        (refl, keep_made D (λ x. Any x.0 × (NestsBody room x.1.0 × Any x.1.1)) _ (both_at u32_at (both_at (body_at room) bytes_at)) (both_at u32_at (both_at (body_at more) bytes_at)) (λ x d. (tt, (d, tt))) (keep_named Any room more bytes_at bytes_at fits (keep_any bytes_at)), tt),
      ),
    )))

pub keep_entry : (room more : ℕ) → room ≤ more → Keeps (λ x. Any x.0 × NestsBody room x.1) (entry_at room) (entry_at more)
keep_entry room more fits = keep_sized (λ x. Any x.0 × NestsBody room x.1) (both_at locals_at (body_at room)) (both_at locals_at (body_at more)) (keep_both Any (NestsBody room) locals_at locals_at (body_at room) (body_at more) (keep_any locals_at) (keep_body room more fits))

keep_func : (room more ty : ℕ) → room ≤ more → Keeps (NestsFunc room) (func_at room ty) (func_at more ty)
keep_func room more ty fits = keep_made (NestsFunc room) (λ x. Any x.0 × NestsBody room x.1) (entry_of ty) (entry_at room) (entry_at more) (λ x d. (tt, d)) (keep_entry room more fits)

keep_entries : (room more : ℕ) → room ≤ more → (tys : List ℕ) → Keeps (AllByRecursion (NestsFunc room)) (entries_at room tys) (entries_at more tys)
unfolding Keeps
keep_entries room more fits [] text rest xs g d = g
keep_entries room more fits (ty ∷ tys) text rest xs g d = keep_bind (func_at room ty text) (func_at more ty text) (λ func mid. entries_at room tys mid >>= λ funcs behind. got (func ∷ funcs) behind) (λ func mid. entries_at more tys mid >>= λ funcs behind. got (func ∷ funcs) behind) xs rest g (λ func mid s e.
    let b = bind_got (entries_at more tys mid) (λ funcs behind. got (func ∷ funcs) behind) xs rest e in
    let a : AllByRecursion (NestsFunc room) (func ∷ b.0) = subst (AllByRecursion (NestsFunc room)) (sym (value_is (func ∷ b.0) xs b.1 rest b.3)) d in
    (keep_func room more ty fits text mid func s a.0, ap (λ (t : Read (List Func)). t >>= λ funcs behind. got (func ∷ funcs) behind) (keep_entries room more fits tys mid b.1 b.0 b.2 a.1) ∙ b.3))

-- what is read where a test holds
keep_tested : {X : Type 0} (D : X → Type 0) (test : Bool) (p q : List ℕ → Read X) (left : ℕ) → Keeps D p q → Keeps D (λ t. cond test (p t) (refused Number left)) (λ t. cond test (q t) (refused Number left))
unfolding Keeps
keep_tested D true p q left h text rest x g d = h text rest x g d
keep_tested D false p q left h text rest x g d = g

keep_bodies : (room more : ℕ) → room ≤ more → (tys : List ℕ) → Keeps (AllByRecursion (NestsFunc room)) (bodies_at room tys) (bodies_at more tys)
unfolding Keeps
keep_bodies room more fits tys text rest xs g d = keep_bind (u32_at text) (u32_at text) (λ count mid. cond (nat_eq count (length tys)) (entries_at room tys mid) (refused Number (length text))) (λ count mid. cond (nat_eq count (length tys)) (entries_at more tys mid) (refused Number (length text))) xs rest g (λ count mid s e. (s, keep_tested (AllByRecursion (NestsFunc room)) (nat_eq count (length tys)) (entries_at room tys) (entries_at more tys) (length text) (keep_entries room more fits tys) mid rest xs e d))

keep_data : (room more : ℕ) → room ≤ more → (said : Option ℕ) → Keeps (AllByRecursion (NestsSeg room)) (segs_at room said) (segs_at more said)
unfolding Keeps
keep_data room more fits said text rest xs g d = keep_bind (u32_at text) (u32_at text) (λ count mid. cond (agrees said count) (items_at (seg_at room) count mid) (refused Number (length text))) (λ count mid. cond (agrees said count) (items_at (seg_at more) count mid) (refused Number (length text))) xs rest g (λ count mid s e. (s, keep_tested (AllByRecursion (NestsSeg room)) (agrees said count) (items_at (seg_at room) count) (items_at (seg_at more) count) (length text) (keep_items (NestsSeg room) (seg_at room) (seg_at more) (keep_segs room more fits) count) mid rest xs e d))

-- sections

keep_section : {X : Type 0} (D : X → Type 0) (id : ℕ) (nothing : X) (p q : List ℕ → Read X) → Keeps D p q → Keeps D (section_at id nothing p) (section_at id nothing q)
unfolding Keeps
keep_section D id nothing p q h [] rest x g d = g
keep_section {X} D id nothing p q h (b ∷ text) rest x g d =
    let first : X × List Custom → X = λ z. z.0 in
    let read : (List ℕ → Read X) → List ℕ → Read X = λ r. made_at first (both_at (sized_at r) customs_at) in
    let keeps : Keeps D (read p) (read q) = keep_made D (λ z. D z.0 × Any z.1) first (both_at (sized_at p) customs_at) (both_at (sized_at q) customs_at) (λ z k. (k, tt)) (keep_both D Any (sized_at p) (sized_at q) customs_at customs_at (keep_sized D p q h) (keep_any customs_at)) in
    elim (cases_Bool (nat_eq b id)) [
      | inl is ↦ cond-true (nat_eq b id) (read p text) (got nothing (b ∷ text)) is ∙ keeps text rest x (sym (cond-true (nat_eq b id) (read q text) (got nothing (b ∷ text)) is) ∙ g) d
      | inr isnt ↦ cond-false (nat_eq b id) (read p text) (got nothing (b ∷ text)) isnt ∙ sym (cond-false (nat_eq b id) (read q text) (got nothing (b ∷ text)) isnt) ∙ g
    ]

keep_list : {X : Type 0} (D : X → Type 0) (id : ℕ) (p q : List ℕ → Read X) → Keeps D p q → Keeps (AllByRecursion D) (list_at id p) (list_at id q)
keep_list D id p q h = keep_section (AllByRecursion D) id [] (vector_at p) (vector_at q) (keep_vector D p q h)

abbrev pub ShallowLate : ℕ → Late → Type 0
ShallowLate room x = Any x.0 × (AllByRecursion (NestsFunc room) x.1.0 × AllByRecursion (NestsSeg room) x.1.1)

keep_late : (room more : ℕ) → room ≤ more → (tys : List ℕ) → Keeps (ShallowLate room) (late_at room tys) (late_at more tys)
keep_late room more fits tys =
    let count = section_at 12 None (made_at some u32_at) in
    keep_then Any (λ x. AllByRecursion (NestsFunc room) x.0 × AllByRecursion (NestsSeg room) x.1) count count (λ said. both_at (section_at 10 [] (bodies_at room tys)) (section_at 11 [] (segs_at room said))) (λ said. both_at (section_at 10 [] (bodies_at more tys)) (section_at 11 [] (segs_at more said))) (keep_any count) (λ said. keep_both (AllByRecursion (NestsFunc room)) (AllByRecursion (NestsSeg room)) (section_at 10 [] (bodies_at room tys)) (section_at 10 [] (bodies_at more tys)) (section_at 11 [] (segs_at room said)) (section_at 11 [] (segs_at more said)) (keep_section (AllByRecursion (NestsFunc room)) 10 [] (bodies_at room tys) (bodies_at more tys) (keep_bodies room more fits tys)) (keep_section (AllByRecursion (NestsSeg room)) 11 [] (segs_at room said) (segs_at more said) (keep_data room more fits said)))

abbrev pub Shallow9 : ℕ → List Elem × Late → Type 0
Shallow9 room x = AllByRecursion (NestsElem room) x.0 × ShallowLate room x.1

abbrev pub Shallow8 : ℕ → Option ℕ × (List Elem × Late) → Type 0
Shallow8 room x = Any x.0 × Shallow9 room x.1

abbrev pub Shallow7 : ℕ → List Export × (Option ℕ × (List Elem × Late)) → Type 0
Shallow7 room x = Any x.0 × Shallow8 room x.1

abbrev pub Shallow6 : ℕ → List Global × (List Export × (Option ℕ × (List Elem × Late))) → Type 0
Shallow6 room x = AllByRecursion (NestsGlobal room) x.0 × Shallow7 room x.1

abbrev pub Shallow13 : ℕ → List ℕ × (List Global × (List Export × (Option ℕ × (List Elem × Late)))) → Type 0
Shallow13 room x = Any x.0 × Shallow6 room x.1

abbrev pub Shallow5 : ℕ → List Limits × (List ℕ × (List Global × (List Export × (Option ℕ × (List Elem × Late))))) → Type 0
Shallow5 room x = Any x.0 × Shallow13 room x.1

abbrev pub ShallowMiddle : ℕ → Middle → Type 0
ShallowMiddle room x = AllByRecursion (NestsTable room) x.0 × Shallow5 room x.1

keep_middle : (room more : ℕ) → room ≤ more → (tys : List ℕ) → Keeps (ShallowMiddle room) (middle_at room tys) (middle_at more tys)
keep_middle room more fits tys =
    let start = section_at 8 None (made_at some u32_at) in
    let a9 = both_at (list_at 9 (elem_at room)) (late_at room tys) in
    let b9 = both_at (list_at 9 (elem_at more)) (late_at more tys) in
    let a8 = both_at start a9 in
    let b8 = both_at start b9 in
    let a7 = both_at (list_at 7 export_at) a8 in
    let b7 = both_at (list_at 7 export_at) b8 in
    let a6 = both_at (list_at 6 (global_at room)) a7 in
    let b6 = both_at (list_at 6 (global_at more)) b7 in
    let a13 = both_at (list_at 13 tag_at) a6 in
    let b13 = both_at (list_at 13 tag_at) b6 in
    let a5 = both_at (list_at 5 limits_at) a13 in
    let b5 = both_at (list_at 5 limits_at) b13 in
    keep_both (AllByRecursion (NestsTable room)) (Shallow5 room) (list_at 4 (table_at room)) (list_at 4 (table_at more)) a5 b5 (keep_list (NestsTable room) 4 (table_at room) (table_at more) (keep_tables room more fits))
    (keep_both Any (Shallow13 room) (list_at 5 limits_at) (list_at 5 limits_at) a13 b13 (keep_any (list_at 5 limits_at))
    (keep_both Any (Shallow6 room) (list_at 13 tag_at) (list_at 13 tag_at) a6 b6 (keep_any (list_at 13 tag_at))
    (keep_both (AllByRecursion (NestsGlobal room)) (Shallow7 room) (list_at 6 (global_at room)) (list_at 6 (global_at more)) a7 b7 (keep_list (NestsGlobal room) 6 (global_at room) (global_at more) (keep_globals room more fits))
    (keep_both Any (Shallow8 room) (list_at 7 export_at) (list_at 7 export_at) a8 b8 (keep_any (list_at 7 export_at))
    (keep_both Any (Shallow9 room) start start a9 b9 (keep_any start)
    (keep_both (AllByRecursion (NestsElem room)) (ShallowLate room) (list_at 9 (elem_at room)) (list_at 9 (elem_at more)) (late_at room tys) (late_at more tys) (keep_list (NestsElem room) 9 (elem_at room) (elem_at more) (keep_elems room more fits))
    (keep_late room more fits tys)))))))

abbrev pub ShallowAll : ℕ → All → Type 0
ShallowAll room x = Any x.0 × (Any x.1.0 × (Any x.1.1.0 × ShallowMiddle room x.1.1.1))

keep_all : (room more : ℕ) → room ≤ more → Keeps (ShallowAll room) (all_at room) (all_at more)
keep_all room more fits =
    let a3 = then_at (list_at 3 u32_at) (middle_at room) in
    let b3 = then_at (list_at 3 u32_at) (middle_at more) in
    keep_both Any (λ x. Any x.0 × (Any x.1.0 × ShallowMiddle room x.1.1)) (list_at 1 group_at) (list_at 1 group_at) (both_at (list_at 2 import_at) a3) (both_at (list_at 2 import_at) b3) (keep_any (list_at 1 group_at))
    (keep_both Any (λ x. Any x.0 × ShallowMiddle room x.1) (list_at 2 import_at) (list_at 2 import_at) a3 b3 (keep_any (list_at 2 import_at))
    (keep_then Any (ShallowMiddle room) (list_at 3 u32_at) (list_at 3 u32_at) (middle_at room) (middle_at more) (keep_any (list_at 3 u32_at)) (keep_middle room more fits)))

shallow_all : (room : ℕ) (x : All) → IsShallow room (module_of x) → ShallowAll room x
shallow_all room x s = (tt, (tt, (tt, (s.tables, (tt, (tt, (s.globals, (tt, (tt, (s.elems, (tt, (s.funcs, s.segs))))))))))))

pub end_is : (due : Bool) (m n : Module) (text rest : List ℕ) → end_at due m text ≡ got n rest → m ≡ n
end_is true m n [] rest h = absurd (refused-got _ 0 n rest h)
end_is false m n [] rest h = value_is m n [] rest h
end_is due m n (b ∷ text) rest h = absurd (refused-got _ (length (b ∷ text)) n rest h)

finish : All → List ℕ → Read Module
finish x rest = end_at (is_due x) (module_of x) rest

keep_module : (room more : ℕ) → room ≤ more → Keeps (IsShallow room) (module_at room) (module_at more)
unfolding Keeps finish
keep_module room more fits text rest m g s =
    keep_bind (fixed_at HeaderByte header text) (fixed_at HeaderByte header text) (λ start t. customs_at t >>= λ customs behind. sections_at room behind) (λ start t. customs_at t >>= λ customs behind. sections_at more behind) m rest g (λ start t i e. (
      i,
      keep_bind (customs_at t) (customs_at t) (λ customs behind. sections_at room behind) (λ customs behind. sections_at more behind) m rest e (λ customs behind j f. (
        j,
        keep_bind (all_at room behind) (all_at more behind) finish finish m rest f (λ x end k l. (keep_all room more fits behind end x k (shallow_all room x (subst (IsShallow room) (sym (end_is (is_due x) (module_of x) m end rest l)) s)), l)),
      )),
    ))

-- more room than is needed changes nothing
shallow_by : (room : ℕ) (text : List ℕ) (m : Module) → module_at (suc (length text)) text ≡ got m [] → IsShallow room m → module_at room text ≡ got m []
unfolding Keeps
shallow_by room text m read s =
    let size = suc (length text) in
    keep_module room (room + size) (omega arith) text [] m (wide size (room + size) (omega arith) text [] m read) s

-- a module that is nested no deeper is read
pub shallow_read : (room : ℕ) (text : List ℕ) (m : Module) → Spells text m → IsShallow room m → module_at room text ≡ got m []
unfolding Keeps
shallow_read room text m h s = shallow_by room text m (module_again text m h) s

pub deep_unspelled : (text : List ℕ) (place : ℕ) (m : Module) → NestsTooDeep text place → Spells text m → IsShallow 1000 m → ⊥
deep_unspelled text place m due h s = got-stops m [] (record { item = FlatOpcode; left = due.left }) (sym (shallow_read 1000 text m h s) ∙ due.stopped)
