-- Reading where fewer blocks may be open answers the same, or stops where a block is opened.
use Rattle.std.proofs.Common.{ℕ, zero, suc, ◌+◌, ◌≤◌, List, [], ◌∷◌, ◌≡◌, refl, ap, ◌∙◌, sym, subst, length, arith, nat_eq, nat_lt, Bool, true, false, cond, ◌⊎◌, inl, inr, Option, Some, None, take, drop}
use Rattle.gu_syntax.specs.Code.{Ins, Code, leaf, block, loop, choice, try_table, done}
use Rattle.gu_syntax.specs.declared.instr.BlockType.{BlockType}
use Rattle.gu_syntax.specs.declared.module.Module.{Module}
use Rattle.gu_syntax.specs.Module.{header, Custom, Spells}
use Rattle.gu_syntax.specs.Due.{IsMalformed, IsOutside, outside}
use Rattle.gu_syntax.specs.Reading.{Item, Fixed, Number, Size, TypeStart, Opcode, FlatOpcode, HeaderByte, Fault, Read, got, stops, refused, ◌>>=◌, made_at, both_at, then_at, u32_as, u32_at, headed_at, numbered_at, rows_at, none_at, after, fixed_at, items_at, vector_at, whole, content_at, sized_at, bytes_at, ref_head, ref_at, val_at, mutable_at, limits_at, block_type_at, catch_at, leaf_at, opened, Nested, block_at, second_at, if_at, try_at, ins_at, next_of, next_at, until_head, until_at, body_of, body_at, table_of, filled_of, table_head, table_at, tag_at, global_of, global_at, funcs_at, kind_funcs_at, exprs_at, elem_rows, elem_at, seg_rows, seg_at, locals_at, entry_of, entry_at, func_at, entries_at, bodies_at, agrees, segs_at, customs_at, section_at, list_at, some, import_at, group_at, export_at, late_at, middle_at, all_at, module_of, is_due, end_at, sections_at, module_at}
use Rattle.gu_syntax.proofs.Decodes.{stops-got, fault_is}
use Rattle.gu_syntax.proofs.Modules.{module_again}

-- stopped where a block is opened
unfoldable pub Flat : {X : Type 0} → Read X → Type 0
Flat {X} r = (left : ℕ) × ◌≡◌ {A = Read X} r (refused FlatOpcode left)

-- the same answer, or stopped where a block is opened
unfoldable pub Narrow : {X : Type 0} → Read X → Read X → Type 0
Narrow r s = (r ≡ s) ⊎ Flat r

same : {X : Type 0} (r : Read X) → Narrow r r
unfolding Narrow
same r = inl refl

bind_same : {X Y : Type 0} (r : Read X) (f g : X → List ℕ → Read Y) → ((x : X) (rest : List ℕ) → Narrow (f x rest) (g x rest)) → Narrow (r >>= f) (r >>= g)
unfolding Narrow
bind_same (got x rest) f g h = h x rest
bind_same (stops fault) f g h = inl refl

bind : {X Y : Type 0} (r s : Read X) (f g : X → List ℕ → Read Y) → Narrow r s → ((x : X) (rest : List ℕ) → Narrow (f x rest) (g x rest)) → Narrow (r >>= f) (s >>= g)
unfolding Narrow Flat
bind {X} {Y} r s f g (inl e) h = let P : Read X → Type 0 = λ t. Narrow (t >>= f) (s >>= g) in subst P (sym e) (bind_same s f g h)
bind {X} {Y} r s f g (inr e) h = inr (e.0, ap (λ (t : Read X). t >>= f) e.1)

either : {X : Type 0} (test : Bool) (r s r' s' : Read X) → Narrow r r' → Narrow s s' → Narrow (cond test r s) (cond test r' s')
either true r s r' s' a b = a
either false r s r' s' a b = b

-- the same of functions on texts
unfoldable pub Narrows : {X : Type 0} → (List ℕ → Read X) → (List ℕ → Read X) → Type 0
Narrows p q = (text : List ℕ) → Narrow (p text) (q text)

equal : {X : Type 0} (p : List ℕ → Read X) → Narrows p p
unfolding Narrows
equal p text = same (p text)

made : {X Y : Type 0} (make : X → Y) (p q : List ℕ → Read X) → Narrows p q → Narrows (made_at make p) (made_at make q)
unfolding Narrows
made make p q h text = bind (p text) (q text) (λ x rest. got (make x) rest) (λ x rest. got (make x) rest) (h text) (λ x rest. same (got (make x) rest))

both : {X Y : Type 0} (p p' : List ℕ → Read X) (q q' : List ℕ → Read Y) → Narrows p p' → Narrows q q' → Narrows (both_at p q) (both_at p' q')
unfolding Narrows
both p p' q q' h k text = bind (p text) (p' text) (λ x rest. q rest >>= λ y behind. got (x, y) behind) (λ x rest. q' rest >>= λ y behind. got (x, y) behind) (h text) (λ x rest. bind (q rest) (q' rest) (λ y behind. got (x, y) behind) (λ y behind. got (x, y) behind) (k rest) (λ y behind. same (got (x, y) behind)))

thens : {X Y : Type 0} (p p' : List ℕ → Read X) (q q' : X → List ℕ → Read Y) → Narrows p p' → ((x : X) → Narrows (q x) (q' x)) → Narrows (then_at p q) (then_at p' q')
unfolding Narrows
thens p p' q q' h k text = bind (p text) (p' text) (λ x rest. q x rest >>= λ y behind. got (x, y) behind) (λ x rest. q' x rest >>= λ y behind. got (x, y) behind) (h text) (λ x rest. bind (q x rest) (q' x rest) (λ y behind. got (x, y) behind) (λ y behind. got (x, y) behind) (k x rest) (λ y behind. same (got (x, y) behind)))

items : {X : Type 0} (p q : List ℕ → Read X) → Narrows p q → (n : ℕ) → Narrows (items_at p n) (items_at q n)
unfolding Narrows
items p q h zero text = same (got [] text)
items p q h (suc n) text = bind (p text) (q text) (λ x rest. items_at p n rest >>= λ xs behind. got (x ∷ xs) behind) (λ x rest. items_at q n rest >>= λ xs behind. got (x ∷ xs) behind) (h text) (λ x rest. bind (items_at p n rest) (items_at q n rest) (λ xs behind. got (x ∷ xs) behind) (λ xs behind. got (x ∷ xs) behind) (items p q h n rest) (λ xs behind. same (got (x ∷ xs) behind)))

vector : {X : Type 0} (p q : List ℕ → Read X) → Narrows p q → Narrows (vector_at p) (vector_at q)
unfolding Narrows
vector p q h text = bind_same (u32_at text) (λ count rest. items_at p count rest) (λ count rest. items_at q count rest) (λ count rest. items p q h count rest)

whole_narrow : {X : Type 0} (behind : List ℕ) (r s : Read X) → Narrow r s → Narrow (whole behind r) (whole behind s)
unfolding Narrow Flat
whole_narrow behind r s (inl e) = inl (ap (whole behind) e)
whole_narrow behind r s (inr e) = inr (e.0 + length behind, ap (whole behind) e.1)

sized : {X : Type 0} (p q : List ℕ → Read X) → Narrows p q → Narrows (sized_at p) (sized_at q)
unfolding Narrows
sized p q h text = bind_same (u32_as Size text) (λ size rest. content_at p (length text) size rest) (λ size rest. content_at q (length text) size rest) (λ size rest. either (nat_lt (length rest) size) (refused Size (length text)) (whole (drop size rest) (p (take size rest))) (refused Size (length text)) (whole (drop size rest) (q (take size rest))) (same (refused Size (length text))) (whole_narrow (drop size rest) (p (take size rest)) (q (take size rest)) (h (take size rest))))

afters : {X : Type 0} (item : Item) (byte : ℕ) (p q : List ℕ → Read X) → Narrows p q → Narrows (after item byte p) (after item byte q)
unfolding Narrows
afters item byte p q h [] = same (refused item 0)
afters item byte p q h (b ∷ text) = either (nat_eq b byte) (p text) (refused item (length (b ∷ text))) (q text) (refused item (length (b ∷ text))) (h text) (same (refused item (length (b ∷ text))))

-- a row before others
row : {X : Type 0} (test : Bool) (p q p' q' : List ℕ → Read X) → Narrows p p' → Narrows q q' → Narrows (cond test p q) (cond test p' q')
row true p q p' q' a b = a
row false p q p' q' a b = b

headed : {X : Type 0} (item : Item) (d e : ℕ → ℕ → List ℕ → Read X) → ((left c : ℕ) → Narrows (d left c) (e left c)) → Narrows (headed_at item d) (headed_at item e)
unfolding Narrows
headed item d e h [] = same (refused item 0)
headed item d e h (b ∷ text) = h (suc (length text)) b text

numbered : {X : Type 0} (item : Item) (d e : ℕ → ℕ → List ℕ → Read X) → ((left c : ℕ) → Narrows (d left c) (e left c)) → Narrows (numbered_at item d) (numbered_at item e)
unfolding Narrows
numbered item d e h text = bind_same (u32_as item text) (λ n rest. d (length text) n rest) (λ n rest. e (length text) n rest) (λ n rest. h (length text) n rest)

-- expressions

opens : {X : Type 0} (room more : ℕ) (p q : ℕ → List ℕ → Read X) (left : ℕ) → room ≤ more → ((low high : ℕ) → low ≤ high → Narrows (p low) (q high)) → Narrows (opened room p left) (opened more q left)
unfolding Narrows Narrow Flat
opens zero more p q left fits h text = inr (left, refl)
opens (suc room) zero p q left fits h text = absurd (omega (arith, fits))
opens (suc room) (suc more) p q left fits h text = h room more (omega (arith, fits)) text

blocks : (make : BlockType → Code → Ins) (p q : List ℕ → Read (Code × Bool)) → Narrows p q → Narrows (block_at make p) (block_at make q)
unfolding Narrows
blocks make p q h text = bind_same (block_type_at text) (λ ty rest. p rest >>= λ code behind. got (make ty code.0) behind) (λ ty rest. q rest >>= λ code behind. got (make ty code.0) behind) (λ ty rest. bind (p rest) (q rest) (λ code behind. got (make ty code.0) behind) (λ code behind. got (make ty code.0) behind) (h rest) (λ code behind. same (got (make ty code.0) behind)))

seconds : (ty : BlockType) (p q : List ℕ → Read (Code × Bool)) → Narrows p q → (one : Code × Bool) → Narrows (second_at ty p one) (second_at ty q one)
unfolding Narrows
seconds ty p q h one text = either one.1 (p text >>= λ no behind. got (choice ty one.0 no.0) behind) (got (choice ty one.0 done) text) (q text >>= λ no behind. got (choice ty one.0 no.0) behind) (got (choice ty one.0 done) text) (bind (p text) (q text) (λ no behind. got (choice ty one.0 no.0) behind) (λ no behind. got (choice ty one.0 no.0) behind) (h text) (λ no behind. same (got (choice ty one.0 no.0) behind))) (same (got (choice ty one.0 done) text))

ifs : (p q p' q' : List ℕ → Read (Code × Bool)) → Narrows p p' → Narrows q q' → Narrows (if_at p q) (if_at p' q')
unfolding Narrows
ifs p q p' q' h k text = bind_same (block_type_at text) (λ ty rest. p rest >>= λ one middle. second_at ty q one middle) (λ ty rest. p' rest >>= λ one middle. second_at ty q' one middle) (λ ty rest. bind (p rest) (p' rest) (λ one middle. second_at ty q one middle) (λ one middle. second_at ty q' one middle) (h rest) (λ one middle. seconds ty q q' k one middle))

tries : (p q : List ℕ → Read (Code × Bool)) → Narrows p q → Narrows (try_at p) (try_at q)
unfolding Narrows
tries p q h text = bind_same (block_type_at text) (λ ty rest. vector_at catch_at rest >>= λ catches middle. p middle >>= λ code behind. got (try_table ty catches code.0) behind) (λ ty rest. vector_at catch_at rest >>= λ catches middle. q middle >>= λ code behind. got (try_table ty catches code.0) behind) (λ ty rest. bind_same (vector_at catch_at rest) (λ catches middle. p middle >>= λ code behind. got (try_table ty catches code.0) behind) (λ catches middle. q middle >>= λ code behind. got (try_table ty catches code.0) behind) (λ catches middle. bind (p middle) (q middle) (λ code behind. got (try_table ty catches code.0) behind) (λ code behind. got (try_table ty catches code.0) behind) (h middle) (λ code behind. same (got (try_table ty catches code.0) behind))))

abbrev Inner : Nested → Nested → Type 0
Inner p q = (low high : ℕ) (split : Bool) → low ≤ high → Narrows (p low split) (q high split)

inses : (p q : Nested) (room more left op : ℕ) → room ≤ more → Inner p q → Narrows (ins_at p room left op) (ins_at q more left op)
inses p q room more left op fits h =
    let other = made_at leaf (leaf_at left op) in
    let a1 = opened room (λ lower rest. block_at block (p lower false) rest) left in
    let b1 = opened more (λ lower rest. block_at block (q lower false) rest) left in
    let a2 = opened room (λ lower rest. block_at loop (p lower false) rest) left in
    let b2 = opened more (λ lower rest. block_at loop (q lower false) rest) left in
    let a3 = opened room (λ lower rest. if_at (p lower true) (p lower false) rest) left in
    let b3 = opened more (λ lower rest. if_at (q lower true) (q lower false) rest) left in
    let a4 = opened room (λ lower rest. try_at (p lower false) rest) left in
    let b4 = opened more (λ lower rest. try_at (q lower false) rest) left in
    let c4 = cond (nat_eq op 0x1F) a4 other in
    let d4 = cond (nat_eq op 0x1F) b4 other in
    let c3 = cond (nat_eq op 0x04) a3 c4 in
    let d3 = cond (nat_eq op 0x04) b3 d4 in
    let c2 = cond (nat_eq op 0x03) a2 c3 in
    let d2 = cond (nat_eq op 0x03) b2 d3 in
    row (nat_eq op 0x02) a1 c2 b1 d2 (opens room more (λ lower rest. block_at block (p lower false) rest) (λ lower rest. block_at block (q lower false) rest) left fits (λ low high k. blocks block (p low false) (q high false) (h low high false k)))
    (row (nat_eq op 0x03) a2 c3 b2 d3 (opens room more (λ lower rest. block_at loop (p lower false) rest) (λ lower rest. block_at loop (q lower false) rest) left fits (λ low high k. blocks loop (p low false) (q high false) (h low high false k)))
    (row (nat_eq op 0x04) a3 c4 b3 d4 (opens room more (λ lower rest. if_at (p lower true) (p lower false) rest) (λ lower rest. if_at (q lower true) (q lower false) rest) left fits (λ low high k. ifs (p low true) (p low false) (q high true) (q high false) (h low high true k) (h low high false k)))
    (row (nat_eq op 0x1F) a4 other b4 other (opens room more (λ lower rest. try_at (p lower false) rest) (λ lower rest. try_at (q lower false) rest) left fits (λ low high k. tries (p low false) (q high false) (h low high false k)))
    (equal other))))

nexts : (p q : Nested) (room more : ℕ) (split : Bool) (left op : ℕ) → room ≤ more → Inner p q → Narrows (next_at p room split left op) (next_at q more split left op)
unfolding Narrows
nexts p q room more split left op fits h text = bind (ins_at p room left op text) (ins_at q more left op text) (λ ins rest. made_at (next_of ins) (p room split) rest) (λ ins rest. made_at (next_of ins) (q more split) rest) (inses p q room more left op fits h text) (λ ins rest. made (next_of ins) (p room split) (q more split) (h room more split fits) rest)

untils_head : (p q : Nested) (room more : ℕ) (split : Bool) (left op : ℕ) → room ≤ more → Inner p q → Narrows (until_head p room split left op) (until_head q more split left op)
untils_head p q room more false left op fits h = row (nat_eq op 0x0B) (none_at (done, false)) (next_at p room false left op) (none_at (done, false)) (next_at q more false left op) (equal (none_at (done, false))) (nexts p q room more false left op fits h)
untils_head p q room more true left op fits h =
    let a = cond (nat_eq op 0x05) (none_at (done, true)) (next_at p room true left op) in
    let b = cond (nat_eq op 0x05) (none_at (done, true)) (next_at q more true left op) in
    row (nat_eq op 0x0B) (none_at (done, false)) a (none_at (done, false)) b (equal (none_at (done, false)))
    (row (nat_eq op 0x05) (none_at (done, true)) (next_at p room true left op) (none_at (done, true)) (next_at q more true left op) (equal (none_at (done, true))) (nexts p q room more true left op fits h))

untils : (fuel room more : ℕ) (split : Bool) → room ≤ more → Narrows (until_at fuel room split) (until_at fuel more split)
unfolding Narrows
untils zero room more split fits text = same (refused Opcode (length text))
untils (suc fuel) room more split fits text =
    let p : Nested = λ lower sp rest. until_at fuel lower sp rest in
    let inner : (low high : ℕ) (sp : Bool) → low ≤ high → (t : List ℕ) → Narrow (p low sp t) (p high sp t) = λ low high sp k t. untils fuel low high sp k t in
    headed Opcode (until_head p room split) (until_head p more split) (λ left op. untils_head p p room more split left op fits inner) text

pub body : (room more : ℕ) → room ≤ more → Narrows (body_at room) (body_at more)
unfolding Narrows
body room more fits text = made body_of (until_at (suc (length text)) room false) (until_at (suc (length text)) more false) (untils (suc (length text)) room more false fits) text

-- items of sections

tables : (room more : ℕ) → room ≤ more → Narrows (table_at room) (table_at more)
tables room more fits = headed TypeStart (table_head room) (table_head more) (λ left c.
    let a = after Fixed 0x00 (made_at filled_of (both_at ref_at (both_at limits_at (body_at room)))) in
    let b = after Fixed 0x00 (made_at filled_of (both_at ref_at (both_at limits_at (body_at more)))) in
    let other = made_at table_of (both_at (ref_head left c) limits_at) in
    row (nat_eq c 0x40) a other b other
    (afters Fixed 0x00 (made_at filled_of (both_at ref_at (both_at limits_at (body_at room)))) (made_at filled_of (both_at ref_at (both_at limits_at (body_at more)))) (made filled_of (both_at ref_at (both_at limits_at (body_at room))) (both_at ref_at (both_at limits_at (body_at more))) (both ref_at ref_at (both_at limits_at (body_at room)) (both_at limits_at (body_at more)) (equal ref_at) (both limits_at limits_at (body_at room) (body_at more) (equal limits_at) (body room more fits)))))
    (equal other))

globals : (room more : ℕ) → room ≤ more → Narrows (global_at room) (global_at more)
globals room more fits = made global_of (both_at val_at (both_at mutable_at (body_at room))) (both_at val_at (both_at mutable_at (body_at more))) (both val_at val_at (both_at mutable_at (body_at room)) (both_at mutable_at (body_at more)) (equal val_at) (both mutable_at mutable_at (body_at room) (body_at more) (equal mutable_at) (body room more fits)))

exprs : (room more : ℕ) → room ≤ more → Narrows (exprs_at room) (exprs_at more)
exprs room more fits = vector (body_at room) (body_at more) (body room more fits)

-- what stands at an offset
at_offset : {X : Type 0} (room more : ℕ) (p q : List ℕ → Read X) → room ≤ more → Narrows p q → Narrows (both_at (body_at room) p) (both_at (body_at more) q)
at_offset room more p q fits h = both (body_at room) (body_at more) p q (body room more fits) h

-- the same in a table or a memory that is named
named_offset : {X : Type 0} (room more : ℕ) (p q : List ℕ → Read X) → room ≤ more → Narrows p q → Narrows (both_at u32_at (both_at (body_at room) p)) (both_at u32_at (both_at (body_at more) q))
named_offset room more p q fits h = both u32_at u32_at (both_at (body_at room) p) (both_at (body_at more) q) (equal u32_at) (at_offset room more p q fits h)

typed : (room more : ℕ) → room ≤ more → Narrows (both_at ref_at (exprs_at room)) (both_at ref_at (exprs_at more))
typed room more fits = both ref_at ref_at (exprs_at room) (exprs_at more) (equal ref_at) (exprs room more fits)

-- rows of which each narrows, one by one
abbrev RowsNarrow : {X : Type 0} → List (ℕ × (List ℕ → Read X)) → List (ℕ × (List ℕ → Read X)) → Type 0
RowsNarrow [] [] = Unit {0}
RowsNarrow (x ∷ xs) (y ∷ ys) = (x.0 ≡ y.0) × Narrows x.1 y.1 × RowsNarrow xs ys
RowsNarrow _ _ = ⊥

rows_narrow : {X : Type 0} (item : Item) (left code : ℕ) (xs ys : List (ℕ × (List ℕ → Read X))) → RowsNarrow xs ys → Narrows (rows_at item xs left code) (rows_at item ys left code)
rows_narrow item left code [] [] h = equal (λ other. refused item left)
rows_narrow {X} item left code (x ∷ xs) (y ∷ ys) h =
    let P : ℕ → Type 0 = λ n. Narrows (cond (nat_eq code x.0) x.1 (rows_at item xs left code)) (cond (nat_eq code n) y.1 (rows_at item ys left code)) in
    subst P h.0 (row (nat_eq code x.0) x.1 (rows_at item xs left code) y.1 (rows_at item ys left code) h.1 (rows_narrow item left code xs ys h.2))
rows_narrow item left code [] (y ∷ ys) h = absurd h
rows_narrow item left code (x ∷ xs) [] h = absurd h

elems : (room more : ℕ) → room ≤ more → Narrows (elem_at room) (elem_at more)
elems room more fits = numbered Fixed (rows_at Fixed (elem_rows room)) (rows_at Fixed (elem_rows more)) (λ left code. rows_narrow Fixed left code (elem_rows room) (elem_rows more)
    ((
      refl,
      made _ (both_at (body_at room) funcs_at) (both_at (body_at more) funcs_at) (at_offset room more funcs_at funcs_at fits (equal funcs_at)),
      (
        refl,
        equal _,
        (
          refl,
          made _ (both_at u32_at (both_at (body_at room) kind_funcs_at)) (both_at u32_at (both_at (body_at more) kind_funcs_at)) (named_offset room more kind_funcs_at kind_funcs_at fits (equal kind_funcs_at)),
          (
            refl,
            equal _,
            (
              refl,
              made _ (both_at (body_at room) (exprs_at room)) (both_at (body_at more) (exprs_at more)) (at_offset room more (exprs_at room) (exprs_at more) fits (exprs room more fits)),
              (
                refl,
                made _ (both_at ref_at (exprs_at room)) (both_at ref_at (exprs_at more)) (typed room more fits),
                (
                  refl,
                  made _ (both_at u32_at (both_at (body_at room) (both_at ref_at (exprs_at room)))) (both_at u32_at (both_at (body_at more) (both_at ref_at (exprs_at more)))) (named_offset room more (both_at ref_at (exprs_at room)) (both_at ref_at (exprs_at more)) fits (typed room more fits)),
                  (refl, made _ (both_at ref_at (exprs_at room)) (both_at ref_at (exprs_at more)) (typed room more fits), tt),
                ),
              ),
            ),
          ),
        ),
      ),
    )))

segs : (room more : ℕ) → room ≤ more → Narrows (seg_at room) (seg_at more)
segs room more fits = numbered Fixed (rows_at Fixed (seg_rows room)) (rows_at Fixed (seg_rows more)) (λ left code. rows_narrow Fixed left code (seg_rows room) (seg_rows more)
    ((
      refl,
      made _ (both_at (body_at room) bytes_at) (both_at (body_at more) bytes_at) (at_offset room more bytes_at bytes_at fits (equal bytes_at)),
      (
        refl,
        equal _,
        (refl, made _ (both_at u32_at (both_at (body_at room) bytes_at)) (both_at u32_at (both_at (body_at more) bytes_at)) (named_offset room more bytes_at bytes_at fits (equal bytes_at)), tt),
      ),
    )))

pub entry : (room more : ℕ) → room ≤ more → Narrows (entry_at room) (entry_at more)
entry room more fits = sized (both_at locals_at (body_at room)) (both_at locals_at (body_at more)) (both locals_at locals_at (body_at room) (body_at more) (equal locals_at) (body room more fits))

func : (room more ty : ℕ) → room ≤ more → Narrows (func_at room ty) (func_at more ty)
func room more ty fits = made (entry_of ty) (entry_at room) (entry_at more) (entry room more fits)

entries : (room more : ℕ) → room ≤ more → (tys : List ℕ) → Narrows (entries_at room tys) (entries_at more tys)
unfolding Narrows
entries room more fits [] text = same (got [] text)
entries room more fits (ty ∷ tys) text = bind (func_at room ty text) (func_at more ty text) (λ func rest. entries_at room tys rest >>= λ funcs behind. got (func ∷ funcs) behind) (λ func rest. entries_at more tys rest >>= λ funcs behind. got (func ∷ funcs) behind) (func room more ty fits text) (λ func rest. bind (entries_at room tys rest) (entries_at more tys rest) (λ funcs behind. got (func ∷ funcs) behind) (λ funcs behind. got (func ∷ funcs) behind) (entries room more fits tys rest) (λ funcs behind. same (got (func ∷ funcs) behind)))

bodies : (room more : ℕ) → room ≤ more → (tys : List ℕ) → Narrows (bodies_at room tys) (bodies_at more tys)
unfolding Narrows
bodies room more fits tys text = bind_same (u32_at text) (λ count rest. cond (nat_eq count (length tys)) (entries_at room tys rest) (refused Number (length text))) (λ count rest. cond (nat_eq count (length tys)) (entries_at more tys rest) (refused Number (length text))) (λ count rest. either (nat_eq count (length tys)) (entries_at room tys rest) (refused Number (length text)) (entries_at more tys rest) (refused Number (length text)) (entries room more fits tys rest) (same (refused Number (length text))))

data_segs : (room more : ℕ) → room ≤ more → (said : Option ℕ) → Narrows (segs_at room said) (segs_at more said)
unfolding Narrows
data_segs room more fits said text = bind_same (u32_at text) (λ count rest. cond (agrees said count) (items_at (seg_at room) count rest) (refused Number (length text))) (λ count rest. cond (agrees said count) (items_at (seg_at more) count rest) (refused Number (length text))) (λ count rest. either (agrees said count) (items_at (seg_at room) count rest) (refused Number (length text)) (items_at (seg_at more) count rest) (refused Number (length text)) (items (seg_at room) (seg_at more) (segs room more fits) count rest) (same (refused Number (length text))))

-- sections

section : {X : Type 0} (id : ℕ) (nothing : X) (p q : List ℕ → Read X) → Narrows p q → Narrows (section_at id nothing p) (section_at id nothing q)
unfolding Narrows
section id nothing p q h [] = same (got nothing [])
section {X} id nothing p q h (b ∷ text) =
    let first : X × List Custom → X = λ x. x.0 in
    let a = made_at first (both_at (sized_at p) customs_at) text in
    let c = made_at first (both_at (sized_at q) customs_at) text in
    either (nat_eq b id) a (got nothing (b ∷ text)) c (got nothing (b ∷ text))
    (made first (both_at (sized_at p) customs_at) (both_at (sized_at q) customs_at) (both (sized_at p) (sized_at q) customs_at customs_at (sized p q h) (equal customs_at)) text)
    (same (got nothing (b ∷ text)))

list : {X : Type 0} (id : ℕ) (p q : List ℕ → Read X) → Narrows p q → Narrows (list_at id p) (list_at id q)
list id p q h = section id [] (vector_at p) (vector_at q) (vector p q h)

late : (room more : ℕ) → room ≤ more → (tys : List ℕ) → Narrows (late_at room tys) (late_at more tys)
late room more fits tys =
    let count = section_at 12 None (made_at some u32_at) in
    thens count count (λ said. both_at (section_at 10 [] (bodies_at room tys)) (section_at 11 [] (segs_at room said))) (λ said. both_at (section_at 10 [] (bodies_at more tys)) (section_at 11 [] (segs_at more said))) (equal count) (λ said. both (section_at 10 [] (bodies_at room tys)) (section_at 10 [] (bodies_at more tys)) (section_at 11 [] (segs_at room said)) (section_at 11 [] (segs_at more said)) (section 10 [] (bodies_at room tys) (bodies_at more tys) (bodies room more fits tys)) (section 11 [] (segs_at room said) (segs_at more said) (data_segs room more fits said)))

middle : (room more : ℕ) → room ≤ more → (tys : List ℕ) → Narrows (middle_at room tys) (middle_at more tys)
middle room more fits tys =
    let start = section_at 8 None (made_at some u32_at) in
    let a9 = both_at (list_at 9 (elem_at room)) (late_at room tys) in
    let b9 = both_at (list_at 9 (elem_at more)) (late_at more tys) in
    let a8 = both_at start a9 in
    let b8 = both_at start b9 in
    let a7 = both_at (list_at 7 export_at) a8 in
    let b7 = both_at (list_at 7 export_at) b8 in
    let a6 = both_at (list_at 6 (global_at room)) a7 in
    let b6 = both_at (list_at 6 (global_at more)) b7 in
    let a13 = both_at (list_at 13 tag_at) a6 in
    let b13 = both_at (list_at 13 tag_at) b6 in
    let a5 = both_at (list_at 5 limits_at) a13 in
    let b5 = both_at (list_at 5 limits_at) b13 in
    both (list_at 4 (table_at room)) (list_at 4 (table_at more)) a5 b5 (list 4 (table_at room) (table_at more) (tables room more fits))
    (both (list_at 5 limits_at) (list_at 5 limits_at) a13 b13 (equal (list_at 5 limits_at))
    (both (list_at 13 tag_at) (list_at 13 tag_at) a6 b6 (equal (list_at 13 tag_at))
    (both (list_at 6 (global_at room)) (list_at 6 (global_at more)) a7 b7 (list 6 (global_at room) (global_at more) (globals room more fits))
    (both (list_at 7 export_at) (list_at 7 export_at) a8 b8 (equal (list_at 7 export_at))
    (both start start a9 b9 (equal start)
    (both (list_at 9 (elem_at room)) (list_at 9 (elem_at more)) (late_at room tys) (late_at more tys) (list 9 (elem_at room) (elem_at more) (elems room more fits))
    (late room more fits tys)))))))

alls : (room more : ℕ) → room ≤ more → Narrows (all_at room) (all_at more)
alls room more fits =
    let a3 = then_at (list_at 3 u32_at) (middle_at room) in
    let b3 = then_at (list_at 3 u32_at) (middle_at more) in
    both (list_at 1 group_at) (list_at 1 group_at) (both_at (list_at 2 import_at) a3) (both_at (list_at 2 import_at) b3) (equal (list_at 1 group_at))
    (both (list_at 2 import_at) (list_at 2 import_at) a3 b3 (equal (list_at 2 import_at))
    (thens (list_at 3 u32_at) (list_at 3 u32_at) (middle_at room) (middle_at more) (equal (list_at 3 u32_at)) (middle room more fits)))

module_narrow : (room more : ℕ) → room ≤ more → (text : List ℕ) → Narrow (module_at room text) (module_at more text)
unfolding Narrows
module_narrow room more fits text =
    bind_same (fixed_at HeaderByte header text) (λ start rest. customs_at rest >>= λ customs behind. sections_at room behind) (λ start rest. customs_at rest >>= λ customs behind. sections_at more behind) (λ start rest.
    bind_same (customs_at rest) (λ customs behind. sections_at room behind) (λ customs behind. sections_at more behind) (λ customs behind.
    bind (all_at room behind) (all_at more behind) (λ all end. end_at (is_due all) (module_of all) end) (λ all end. end_at (is_due all) (module_of all) end) (alls room more fits behind) (λ all end. same (end_at (is_due all) (module_of all) end))))

pub wide_of : {X : Type 0} (r s : Read X) (m : X) (rest : List ℕ) → Narrow r s → r ≡ got m rest → s ≡ got m rest
unfolding Narrow Flat
wide_of r s m rest (inl e) h = sym e ∙ h
wide_of r s m rest (inr e) h = absurd (stops-got m rest (record { item = FlatOpcode; left = e.0 }) (sym e.1 ∙ h))

pub flat_of : {X : Type 0} (r s : Read X) (m : X) (rest : List ℕ) (fault : Fault) → Narrow r s → r ≡ stops fault → s ≡ got m rest → fault.item ≡ FlatOpcode
unfolding Narrow Flat
flat_of {X} r s m rest fault (inl e) h read = absurd (stops-got m rest fault (sym h ∙ e ∙ read))
flat_of {X} r s m rest fault (inr e) h read = ap (λ (f : Fault). f.item) (fault_is {A = X} fault (record { item = FlatOpcode; left = e.0 }) (sym h ∙ e.1))

none_there : (code : ℕ) (text : List ℕ) → outside FlatOpcode text ≡ Some code → ⊥
none_there code [] h = let f : ⊥ = cc in f
none_there code (b ∷ text) h = let f : ⊥ = cc in f

-- with more room, what is read is read again
pub wide : (room more : ℕ) → room ≤ more → (text rest : List ℕ) (m : Module) → module_at room text ≡ got m rest → module_at more text ≡ got m rest
wide room more fits text rest m h = wide_of (module_at room text) (module_at more text) m rest (module_narrow room more fits text) h

pub refused_unspelled : (room : ℕ) (text : List ℕ) (m : Module) (fault : Fault) → module_at room text ≡ stops fault → Spells text m → fault.item ≡ FlatOpcode
refused_unspelled room text m fault h s =
    let size = suc (length text) in
    let more = room + size in
    let read : module_at more text ≡ got m [] = wide size more (omega arith) text [] m (module_again text m s) in
    flat_of (module_at room text) (module_at more text) m [] fault (module_narrow room more (omega arith) text) h read

pub malformed_unspelled : (text : List ℕ) (place : ℕ) (m : Module) → IsMalformed text place → Spells text m → ⊥
malformed_unspelled text place m h s = h.shallow (refused_unspelled 1000 text m (record { item = h.item; left = h.due.left }) h.due.stopped s)

pub outside_unspelled : (text : List ℕ) (place code : ℕ) (m : Module) → IsOutside text place code → Spells text m → ⊥
outside_unspelled text place code m h s =
    let flat = refused_unspelled 1000 text m (record { item = h.item; left = h.due.left }) h.due.stopped s in
    let P : Item → Type 0 = λ i. outside i (drop place text) ≡ Some code in
    none_there code (drop place text) (subst P flat h.named)
