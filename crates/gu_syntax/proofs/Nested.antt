-- What is read where so many blocks may be open nests no deeper.
use Rattle.std.proofs.Common.{ℕ, zero, suc, List, [], ◌∷◌, ◌≡◌, refl, ◌∙◌, sym, subst, length, nat_eq, nat_lt, Bool, true, false, cond, inl, inr, Option, None, take, drop}
use Rattle.std.specs.List.{AllByRecursion}
use Rattle.std.proofs.lemmas.Bool.{cases_Bool, cond-true, cond-false}
use Rattle.gu_syntax.specs.Code.{Ins, Code, leaf, block, loop, choice, try_table, done}
use Rattle.gu_syntax.specs.declared.instr.BlockType.{BlockType}
use Rattle.gu_syntax.specs.declared.instr.Body.{Body}
use Rattle.gu_syntax.specs.declared.instr.Catch.{Catch}
use Rattle.gu_syntax.specs.declared.module.Elem.{Elem}
use Rattle.gu_syntax.specs.declared.module.Module.{Module}
use Rattle.gu_syntax.specs.declared.module.Seg.{Seg}
use Rattle.gu_syntax.specs.declared.module.Table.{Table}
use Rattle.gu_syntax.specs.Module.{header, Custom}
use Rattle.gu_syntax.specs.Expressions.{Entry}
use Rattle.gu_syntax.specs.Nesting.{NestsWithin, NestsIns, NestsBody, NestsElem, NestsSeg, NestsTable, NestsGlobal, NestsFunc, IsShallow}
use Rattle.gu_syntax.specs.Reading.{Item, Opcode, FlatOpcode, Fixed, Number, Size, TypeStart, HeaderByte, Read, got, refused, ◌>>=◌, made_at, both_at, then_at, headed_at, numbered_at, rows_at, none_at, after, fixed_at, items_at, vector_at, whole, content_at, sized_at, u32_as, u32_at, bytes_at, ref_head, ref_at, val_at, mutable_at, limits_at, block_type_at, catch_at, leaf_at, opened, Nested, block_at, second_at, if_at, try_at, ins_at, next_of, next_at, until_head, until_at, body_of, body_at, table_of, filled_of, table_head, table_at, tag_at, global_of, global_at, funcs_at, kind_funcs_at, exprs_at, elem_rows, elem_at, seg_rows, seg_at, locals_at, entry_of, entry_at, func_at, entries_at, bodies_at, agrees, segs_at, customs_at, section_at, list_at, some, import_at, group_at, export_at, late_at, middle_at, All, all_at, module_of, is_due, end_at, sections_at, module_at}
use Rattle.gu_syntax.proofs.Decodes.{bind_got, value_is, refused-got, whole_got}
use Rattle.gu_syntax.proofs.Shallow.{Any, Within, ShallowLate, Shallow9, Shallow8, Shallow7, Shallow6, Shallow13, Shallow5, ShallowMiddle, ShallowAll, read_back, end_is}

-- what p reads, D takes
unfoldable pub Yields : {X : Type 0} → (X → Type 0) → (List ℕ → Read X) → Type 0
Yields {X} D p = (text rest : List ℕ) (x : X) → p text ≡ got x rest → D x

bind : {X Y : Type 0} (D : Y → Type 0) (r : Read X) (f : X → List ℕ → Read Y) (y : Y) (rest : List ℕ) → (r >>= f) ≡ got y rest → ((x : X) (mid : List ℕ) → r ≡ got x mid → f x mid ≡ got y rest → D y) → D y
bind D r f y rest h k = let b = bind_got r f y rest h in k b.0 b.1 b.2 b.3

any : {X : Type 0} (p : List ℕ → Read X) → Yields (Any {X = X}) p
unfolding Yields
any p text rest x h = tt

none : {X : Type 0} (D : X → Type 0) (x : X) → D x → Yields D (none_at x)
unfolding Yields
none D x d text rest y h = subst D (value_is x y text rest h) d

made : {X Y : Type 0} (D : Y → Type 0) (E : X → Type 0) (make : X → Y) (p : List ℕ → Read X) → ((x : X) → E x → D (make x)) → Yields E p → Yields D (made_at make p)
unfolding Yields
made D E make p f h text rest y g = bind D (p text) (λ x behind. got (make x) behind) y rest g (λ x mid s e. subst D (value_is (make x) y mid rest e) (f x (h text mid x s)))

thens : {X Y : Type 0} (D : X → Type 0) (E : Y → Type 0) (p : List ℕ → Read X) (q : X → List ℕ → Read Y) → Yields D p → ((x : X) → Yields E (q x)) → Yields (λ xy. D xy.0 × E xy.1) (then_at p q)
unfolding Yields
thens {X} {Y} D E p q h k text rest xy g =
    let P : X × Y → Type 0 = λ z. D z.0 × E z.1 in
    bind P (p text) (λ x more. q x more >>= λ y behind. got (x, y) behind) xy rest g (λ x mid s e. made P E (λ y. (x, y)) (q x) (λ y d. (h text mid x s, d)) (k x) mid rest xy e)

both : {X Y : Type 0} (D : X → Type 0) (E : Y → Type 0) (p : List ℕ → Read X) (q : List ℕ → Read Y) → Yields D p → Yields E q → Yields (λ xy. D xy.0 × E xy.1) (both_at p q)
both D E p q h k = thens D E p (λ x. q) h (λ x. k)

row : {X : Type 0} (D : X → Type 0) (test : Bool) (p q : List ℕ → Read X) → Yields D p → Yields D q → Yields D (cond test p q)
row D true p q a b = a
row D false p q a b = b

headed : {X : Type 0} (D : X → Type 0) (item : Item) (d : ℕ → ℕ → List ℕ → Read X) → ((left c : ℕ) → Yields D (d left c)) → Yields D (headed_at item d)
unfolding Yields
headed D item d h [] rest x g = absurd (refused-got item 0 x rest g)
headed D item d h (b ∷ text) rest x g = h (suc (length text)) b text rest x g

-- expressions

blocks : (make : BlockType → Code → Ins) (D : Ins → Type 0) (E : Code → Type 0) (p : List ℕ → Read (Code × Bool)) → ((ty : BlockType) (code : Code) → E code → D (make ty code)) → Yields (λ x. E x.0) p → Yields D (block_at make p)
unfolding Yields
blocks make D E p f h text rest ins g = bind D (block_type_at text) (λ ty more. p more >>= λ code behind. got (make ty code.0) behind) ins rest g (λ ty mid s e. made D (λ x. E x.0) (λ code. make ty code.0) p (λ x k. f ty x.0 k) h mid rest ins e)

seconds : (D : Ins → Type 0) (E : Code → Type 0) (ty : BlockType) (p : List ℕ → Read (Code × Bool)) (one : Code × Bool) → ((other : Code) → E other → D (choice ty one.0 other)) → E done → Yields (λ x. E x.0) p → Yields D (second_at ty p one)
seconds D E ty p (one, true) f z h = made D (λ x. E x.0) (λ other. choice ty one other.0) p (λ x k. f x.0 k) h
seconds D E ty p (one, false) f z h = none D (choice ty one done) (f done z)

ifs : (D : Ins → Type 0) (E : Code → Type 0) (p q : List ℕ → Read (Code × Bool)) → ((ty : BlockType) (one other : Code) → E one → E other → D (choice ty one other)) → E done → Yields (λ x. E x.0) p → Yields (λ x. E x.0) q → Yields D (if_at p q)
unfolding Yields
ifs D E p q f z h k text rest ins g = bind D (block_type_at text) (λ ty more. p more >>= λ one middle. second_at ty q one middle) ins rest g (λ ty mid s e. bind D (p mid) (λ one middle. second_at ty q one middle) ins rest e (λ one middle t u. seconds D E ty q one (λ other c. f ty one.0 other (h mid middle one t) c) z k middle rest ins u))

tries : (D : Ins → Type 0) (E : Code → Type 0) (p : List ℕ → Read (Code × Bool)) → ((ty : BlockType) (catches : List Catch) (code : Code) → E code → D (try_table ty catches code)) → Yields (λ x. E x.0) p → Yields D (try_at p)
unfolding Yields
tries D E p f h text rest ins g = bind D (block_type_at text) (λ ty more. vector_at catch_at more >>= λ catches middle. p middle >>= λ code behind. got (try_table ty catches code.0) behind) ins rest g (λ ty mid s e. bind D (vector_at catch_at mid) (λ catches middle. p middle >>= λ code behind. got (try_table ty catches code.0) behind) ins rest e (λ catches middle t u. made D (λ x. E x.0) (λ code. try_table ty catches code.0) p (λ x k. f ty catches x.0 k) h middle rest ins u))

-- where a block is opened, what is inside has one place less
opens : (D : ℕ → Ins → Type 0) (room left : ℕ) (p : ℕ → List ℕ → Read Ins) → ((low : ℕ) → Yields (D (suc low)) (p low)) → Yields (D room) (opened room p left)
unfolding Yields
opens D zero left p h text rest ins g = absurd (refused-got FlatOpcode left ins rest g)
opens D (suc room) left p h text rest ins g = h room text rest ins g

abbrev Inner : Nested → Type 0
Inner p = (low : ℕ) (split : Bool) → Yields (Within low) (p low split)

instrs : (p : Nested) (room left op : ℕ) → Inner p → Yields (NestsIns room) (ins_at p room left op)
instrs p room left op h =
    let D : ℕ → Ins → Type 0 = NestsIns in
    let other = made_at leaf (leaf_at left op) in
    let a1 : ℕ → List ℕ → Read Ins = λ lower rest. block_at block (p lower false) rest in
    let a2 : ℕ → List ℕ → Read Ins = λ lower rest. block_at loop (p lower false) rest in
    let a3 : ℕ → List ℕ → Read Ins = λ lower rest. if_at (p lower true) (p lower false) rest in
    let a4 : ℕ → List ℕ → Read Ins = λ lower rest. try_at (p lower false) rest in
    let c4 = cond (nat_eq op 0x1F) (opened room a4 left) other in
    let c3 = cond (nat_eq op 0x04) (opened room a3 left) c4 in
    let c2 = cond (nat_eq op 0x03) (opened room a2 left) c3 in
    row (D room) (nat_eq op 0x02) (opened room a1 left) c2 (opens D room left a1 (λ low. blocks block (D (suc low)) (NestsWithin low) (p low false) (λ ty code n. (low, refl, n)) (h low false)))
    (row (D room) (nat_eq op 0x03) (opened room a2 left) c3 (opens D room left a2 (λ low. blocks loop (D (suc low)) (NestsWithin low) (p low false) (λ ty code n. (low, refl, n)) (h low false)))
    (row (D room) (nat_eq op 0x04) (opened room a3 left) c4 (opens D room left a3 (λ low. ifs (D (suc low)) (NestsWithin low) (p low true) (p low false) (λ ty one second m n. (low, refl, m, n)) tt (h low true) (h low false)))
    (row (D room) (nat_eq op 0x1F) (opened room a4 left) other (opens D room left a4 (λ low. tries (D (suc low)) (NestsWithin low) (p low false) (λ ty catches code n. (low, refl, n)) (h low false)))
    (made (D room) Any leaf (leaf_at left op) (λ i n. tt) (any (leaf_at left op))))))

nexts : (p : Nested) (room : ℕ) (split : Bool) (left op : ℕ) → Inner p → Yields (Within room) (next_at p room split left op)
unfolding Yields
nexts p room split left op h text rest x g = bind (Within room) (ins_at p room left op text) (λ ins mid. made_at (next_of ins) (p room split) mid) x rest g (λ ins mid s e. made (Within room) (Within room) (next_of ins) (p room split) (λ y n. (instrs p room left op h text mid ins s, n)) (h room split) mid rest x e)

heads : (p : Nested) (room : ℕ) (split : Bool) (left op : ℕ) → Inner p → Yields (Within room) (until_head p room split left op)
heads p room false left op h = row (Within room) (nat_eq op 0x0B) (none_at (done, false)) (next_at p room false left op) (none (Within room) (done, false) tt) (nexts p room false left op h)
heads p room true left op h = row (Within room) (nat_eq op 0x0B) (none_at (done, false)) (cond (nat_eq op 0x05) (none_at (done, true)) (next_at p room true left op)) (none (Within room) (done, false) tt) (row (Within room) (nat_eq op 0x05) (none_at (done, true)) (next_at p room true left op) (none (Within room) (done, true) tt) (nexts p room true left op h))

untils : (fuel room : ℕ) (split : Bool) → Yields (Within room) (until_at fuel room split)
unfolding Yields
untils zero room split text rest x g = absurd (refused-got Opcode (length text) x rest g)
untils (suc fuel) room split text rest x g =
    let p : Nested = λ lower sp t. until_at fuel lower sp t in
    let inner : (low : ℕ) (sp : Bool) → Yields (Within low) (p low sp) = λ low sp. untils fuel low sp in
    headed (Within room) Opcode (until_head p room split) (λ left op. heads p room split left op inner) text rest x g

pub bodies : (room : ℕ) → Yields (NestsBody room) (body_at room)
unfolding Yields
bodies room text rest body g = bind (NestsBody room) (until_at (suc (length text)) room false text) (λ x mid. got (body_of x) mid) body rest g (λ x mid s e. subst (NestsBody room) (value_is (body_of x) body mid rest e) (subst (NestsWithin room) (sym (read_back (suc (length text)) room text mid x s)) (untils (suc (length text)) room false text mid x s)))

-- ways to read

items : {X : Type 0} (D : X → Type 0) (p : List ℕ → Read X) → Yields D p → (n : ℕ) → Yields (AllByRecursion D) (items_at p n)
unfolding Yields
items D p h zero text rest xs g = subst (AllByRecursion D) (value_is [] xs text rest g) tt
items D p h (suc n) text rest xs g = bind (AllByRecursion D) (p text) (λ x more. items_at p n more >>= λ ys behind. got (x ∷ ys) behind) xs rest g (λ x mid s e. made (AllByRecursion D) (AllByRecursion D) (λ ys. x ∷ ys) (items_at p n) (λ ys d. (h text mid x s, d)) (items D p h n) mid rest xs e)

vector : {X : Type 0} (D : X → Type 0) (p : List ℕ → Read X) → Yields D p → Yields (AllByRecursion D) (vector_at p)
unfolding Yields
vector D p h text rest xs g = bind (AllByRecursion D) (u32_at text) (λ count more. items_at p count more) xs rest g (λ count mid s e. items D p h count mid rest xs e)

afters : {X : Type 0} (D : X → Type 0) (item : Item) (byte : ℕ) (p : List ℕ → Read X) → Yields D p → Yields D (after item byte p)
unfolding Yields
afters D item byte p h [] rest x g = absurd (refused-got item 0 x rest g)
afters D item byte p h (b ∷ text) rest x g = elim (cases_Bool (nat_eq b byte)) [
  | inl is ↦ h text rest x (sym (cond-true (nat_eq b byte) (p text) (refused item (length (b ∷ text))) is) ∙ g)
  | inr isnt ↦ absurd (refused-got item (length (b ∷ text)) x rest (sym (cond-false (nat_eq b byte) (p text) (refused item (length (b ∷ text))) isnt) ∙ g))
]

numbered : {X : Type 0} (D : X → Type 0) (item : Item) (d : ℕ → ℕ → List ℕ → Read X) → ((left c : ℕ) → Yields D (d left c)) → Yields D (numbered_at item d)
unfolding Yields
numbered D item d h text rest x g = bind D (u32_as item text) (λ n more. d (length text) n more) x rest g (λ n mid s t. h (length text) n mid rest x t)

sized : {X : Type 0} (D : X → Type 0) (p : List ℕ → Read X) → Yields D p → Yields D (sized_at p)
unfolding Yields
sized D p h text rest x g = bind D (u32_as Size text) (λ size more. content_at p (length text) size more) x rest g (λ size mid s e. elim (cases_Bool (nat_lt (length mid) size)) [
  | inl short ↦ absurd (refused-got Size (length text) x rest (sym (cond-true (nat_lt (length mid) size) (refused Size (length text)) (whole (drop size mid) (p (take size mid))) short) ∙ e))
  | inr enough ↦ (
      let w = whole_got (drop size mid) (p (take size mid)) x rest (sym (cond-false (nat_lt (length mid) size) (refused Size (length text)) (whole (drop size mid) (p (take size mid))) enough) ∙ e) in
      h (take size mid) [] x w.0)
])

abbrev RowsYield : {X : Type 0} → (X → Type 0) → List (ℕ × (List ℕ → Read X)) → Type 0
RowsYield D [] = Unit {0}
RowsYield D (x ∷ xs) = Yields D x.1 × RowsYield D xs

rows : {X : Type 0} (D : X → Type 0) (item : Item) (left code : ℕ) (xs : List (ℕ × (List ℕ → Read X))) → RowsYield D xs → Yields D (rows_at item xs left code)
unfolding Yields
rows D item left code [] h text rest x g = absurd (refused-got item left x rest g)
rows D item left code (y ∷ ys) h text rest x g = row D (nat_eq code y.0) y.1 (rows_at item ys left code) h.0 (rows D item left code ys h.1) text rest x g

-- items of sections

tables : (room : ℕ) → Yields (NestsTable room) (table_at room)
tables room =
    let D : Table → Type 0 = NestsTable room in
    headed D TypeStart (table_head room) (λ left c.
    let a = both_at ref_at (both_at limits_at (body_at room)) in
    let b = both_at (ref_head left c) limits_at in
    row D (nat_eq c 0x40) (after Fixed 0x00 (made_at filled_of a)) (made_at table_of b)
    (afters D Fixed 0x00 (made_at filled_of a) (made D (λ x. Any x.0 × (Any x.1.0 × NestsBody room x.1.1)) filled_of a (λ x d. d.1.1) (both Any (λ x. Any x.0 × NestsBody room x.1) ref_at (both_at limits_at (body_at room)) (any ref_at) (both Any (NestsBody room) limits_at (body_at room) (any limits_at) (bodies room)))))
    (made D Any table_of b (λ x d. tt) (any b)))

globals : (room : ℕ) → Yields (NestsGlobal room) (global_at room)
globals room = made (NestsGlobal room) (λ x. Any x.0 × (Any x.1.0 × NestsBody room x.1.1)) global_of (both_at val_at (both_at mutable_at (body_at room))) (λ x d. d.1.1) (both Any (λ x. Any x.0 × NestsBody room x.1) val_at (both_at mutable_at (body_at room)) (any val_at) (both Any (NestsBody room) mutable_at (body_at room) (any mutable_at) (bodies room)))

exprs : (room : ℕ) → Yields (AllByRecursion (NestsBody room)) (exprs_at room)
exprs room = vector (NestsBody room) (body_at room) (bodies room)

offset : {X : Type 0} (E : X → Type 0) (room : ℕ) (p : List ℕ → Read X) → Yields E p → Yields (λ x. NestsBody room x.0 × E x.1) (both_at (body_at room) p)
offset E room p h = both (NestsBody room) E (body_at room) p (bodies room) h

named : {X : Type 0} (E : X → Type 0) (room : ℕ) (p : List ℕ → Read X) → Yields E p → Yields (λ x. Any x.0 × (NestsBody room x.1.0 × E x.1.1)) (both_at u32_at (both_at (body_at room) p))
named E room p h = both Any (λ x. NestsBody room x.0 × E x.1) u32_at (both_at (body_at room) p) (any u32_at) (offset E room p h)

typed : (room : ℕ) → Yields (λ x. Any x.0 × AllByRecursion (NestsBody room) x.1) (both_at ref_at (exprs_at room))
typed room = both Any (AllByRecursion (NestsBody room)) ref_at (exprs_at room) (any ref_at) (exprs room)

elems : (room : ℕ) → Yields (NestsElem room) (elem_at room)
elems room =
    let D : Elem → Type 0 = NestsElem room in
    let all : List Body → Type 0 = AllByRecursion (NestsBody room) in
    numbered D Fixed (rows_at Fixed (elem_rows room)) (λ left code. rows D Fixed left code (elem_rows room) ((
      made D (λ x. NestsBody room x.0 × Any x.1) _ (both_at (body_at room) funcs_at) (λ x d. (d.0, tt)) (offset Any room funcs_at (any funcs_at)),
      (
        made D Any _ kind_funcs_at (λ x d. (tt, tt)) (any kind_funcs_at),
        (
          made D (λ x. Any x.0 × (NestsBody room x.1.0 × Any x.1.1)) _ (both_at u32_at (both_at (body_at room) kind_funcs_at)) (λ x d. (d.1.0, tt)) (named Any room kind_funcs_at (any kind_funcs_at)),
          (
            made D Any _ kind_funcs_at (λ x d. (tt, tt)) (any kind_funcs_at),
            (
              made D (λ x. NestsBody room x.0 × all x.1) _ (both_at (body_at room) (exprs_at room)) (λ x d. (d.0, d.1)) (offset all room (exprs_at room) (exprs room)),
              (
                made D (λ x. Any x.0 × all x.1) _ (both_at ref_at (exprs_at room)) (λ x d. (tt, d.1)) (typed room),
                (
                  made D (λ x. Any x.0 × (NestsBody room x.1.0 × (Any x.1.1.0 × all x.1.1.1))) _ (both_at u32_at (both_at (body_at room) (both_at ref_at (exprs_at room)))) (λ x d. (d.1.0, d.1.1.1)) (named (λ x. Any x.0 × all x.1) room (both_at ref_at (exprs_at room)) (typed room)),
                  (made D (λ x. Any x.0 × all x.1) _ (both_at ref_at (exprs_at room)) (λ x d. (tt, d.1)) (typed room), tt),
                ),
              ),
            ),
          ),
        ),
      ),
    )))

segs : (room : ℕ) → Yields (NestsSeg room) (seg_at room)
segs room =
    let D : Seg → Type 0 = NestsSeg room in
    numbered D Fixed (rows_at Fixed (seg_rows room)) (λ left code. rows D Fixed left code (seg_rows room) ((
      made D (λ x. NestsBody room x.0 × Any x.1) _ (both_at (body_at room) bytes_at) (λ x d. d.0) (offset Any room bytes_at (any bytes_at)),
      (
        made D Any _ bytes_at (λ x d. tt) (any bytes_at),
        (made D (λ x. Any x.0 × (NestsBody room x.1.0 × Any x.1.1)) _ (both_at u32_at (both_at (body_at room) bytes_at)) (λ x d. d.1.0) (named Any room bytes_at (any bytes_at)), tt),
      ),
    )))

entries : (room : ℕ) → Yields (λ x. Any x.0 × NestsBody room x.1) (entry_at room)
entries room = sized (λ x. Any x.0 × NestsBody room x.1) (both_at locals_at (body_at room)) (both Any (NestsBody room) locals_at (body_at room) (any locals_at) (bodies room))

-- the body of a code entry that is read
pub entry_nests : (room : ℕ) (text rest : List ℕ) (x : Entry) → entry_at room text ≡ got x rest → NestsBody room x.1
unfolding Yields
entry_nests room text rest x h = (entries room text rest x h).1

func : (room ty : ℕ) → Yields (NestsFunc room) (func_at room ty)
func room ty = made (NestsFunc room) (λ x. Any x.0 × NestsBody room x.1) (entry_of ty) (entry_at room) (λ x d. d.1) (entries room)

funcs : (room : ℕ) (tys : List ℕ) → Yields (AllByRecursion (NestsFunc room)) (entries_at room tys)
unfolding Yields
funcs room [] text rest xs g = subst (AllByRecursion (NestsFunc room)) (value_is [] xs text rest g) tt
funcs room (ty ∷ tys) text rest xs g = bind (AllByRecursion (NestsFunc room)) (func_at room ty text) (λ x mid. entries_at room tys mid >>= λ ys behind. got (x ∷ ys) behind) xs rest g (λ x mid s e. made (AllByRecursion (NestsFunc room)) (AllByRecursion (NestsFunc room)) (λ ys. x ∷ ys) (entries_at room tys) (λ ys d. (func room ty text mid x s, d)) (funcs room tys) mid rest xs e)

-- what is read where a test holds
tested : {X : Type 0} (D : X → Type 0) (test : Bool) (p : List ℕ → Read X) (left : ℕ) → Yields D p → Yields D (λ t. cond test (p t) (refused Number left))
unfolding Yields
tested D true p left h text rest x g = h text rest x g
tested D false p left h text rest x g = absurd (refused-got Number left x rest g)

code : (room : ℕ) (tys : List ℕ) → Yields (AllByRecursion (NestsFunc room)) (bodies_at room tys)
unfolding Yields
code room tys text rest xs g = bind (AllByRecursion (NestsFunc room)) (u32_at text) (λ count mid. cond (nat_eq count (length tys)) (entries_at room tys mid) (refused Number (length text))) xs rest g (λ count mid s e. tested (AllByRecursion (NestsFunc room)) (nat_eq count (length tys)) (entries_at room tys) (length text) (funcs room tys) mid rest xs e)

data_of : (room : ℕ) (said : Option ℕ) → Yields (AllByRecursion (NestsSeg room)) (segs_at room said)
unfolding Yields
data_of room said text rest xs g = bind (AllByRecursion (NestsSeg room)) (u32_at text) (λ count mid. cond (agrees said count) (items_at (seg_at room) count mid) (refused Number (length text))) xs rest g (λ count mid s e. tested (AllByRecursion (NestsSeg room)) (agrees said count) (items_at (seg_at room) count) (length text) (items (NestsSeg room) (seg_at room) (segs room) count) mid rest xs e)

-- sections

section : {X : Type 0} (D : X → Type 0) (id : ℕ) (nothing : X) (p : List ℕ → Read X) → D nothing → Yields D p → Yields D (section_at id nothing p)
unfolding Yields
section D id nothing p d h [] rest x g = none D nothing d [] rest x g
section {X} D id nothing p d h (b ∷ text) rest x g =
    let first : X × List Custom → X = λ z. z.0 in
    let reads = made_at first (both_at (sized_at p) customs_at) in
    let yields : Yields D reads = made D (λ z. D z.0 × Any z.1) first (both_at (sized_at p) customs_at) (λ z k. k.0) (both D Any (sized_at p) customs_at (sized D p h) (any customs_at)) in
    elim (cases_Bool (nat_eq b id)) [
      | inl is ↦ yields text rest x (sym (cond-true (nat_eq b id) (reads text) (got nothing (b ∷ text)) is) ∙ g)
      | inr isnt ↦ none D nothing d (b ∷ text) rest x (sym (cond-false (nat_eq b id) (reads text) (got nothing (b ∷ text)) isnt) ∙ g)
    ]

list : {X : Type 0} (D : X → Type 0) (id : ℕ) (p : List ℕ → Read X) → Yields D p → Yields (AllByRecursion D) (list_at id p)
list D id p h = section (AllByRecursion D) id [] (vector_at p) tt (vector D p h)

late : (room : ℕ) (tys : List ℕ) → Yields (ShallowLate room) (late_at room tys)
late room tys =
    let count = section_at 12 None (made_at some u32_at) in
    thens Any (λ x. AllByRecursion (NestsFunc room) x.0 × AllByRecursion (NestsSeg room) x.1) count (λ said. both_at (section_at 10 [] (bodies_at room tys)) (section_at 11 [] (segs_at room said))) (any count) (λ said. both (AllByRecursion (NestsFunc room)) (AllByRecursion (NestsSeg room)) (section_at 10 [] (bodies_at room tys)) (section_at 11 [] (segs_at room said)) (section (AllByRecursion (NestsFunc room)) 10 [] (bodies_at room tys) tt (code room tys)) (section (AllByRecursion (NestsSeg room)) 11 [] (segs_at room said) tt (data_of room said)))

middle : (room : ℕ) (tys : List ℕ) → Yields (ShallowMiddle room) (middle_at room tys)
middle room tys =
    let start = section_at 8 None (made_at some u32_at) in
    let a9 = both_at (list_at 9 (elem_at room)) (late_at room tys) in
    let a8 = both_at start a9 in
    let a7 = both_at (list_at 7 export_at) a8 in
    let a6 = both_at (list_at 6 (global_at room)) a7 in
    let a13 = both_at (list_at 13 tag_at) a6 in
    let a5 = both_at (list_at 5 limits_at) a13 in
    both (AllByRecursion (NestsTable room)) (Shallow5 room) (list_at 4 (table_at room)) a5 (list (NestsTable room) 4 (table_at room) (tables room))
    (both Any (Shallow13 room) (list_at 5 limits_at) a13 (any (list_at 5 limits_at))
    (both Any (Shallow6 room) (list_at 13 tag_at) a6 (any (list_at 13 tag_at))
    (both (AllByRecursion (NestsGlobal room)) (Shallow7 room) (list_at 6 (global_at room)) a7 (list (NestsGlobal room) 6 (global_at room) (globals room))
    (both Any (Shallow8 room) (list_at 7 export_at) a8 (any (list_at 7 export_at))
    (both Any (Shallow9 room) start a9 (any start)
    (both (AllByRecursion (NestsElem room)) (ShallowLate room) (list_at 9 (elem_at room)) (late_at room tys) (list (NestsElem room) 9 (elem_at room) (elems room)) (late room tys)))))))

all_of : (room : ℕ) → Yields (ShallowAll room) (all_at room)
all_of room =
    let a3 = then_at (list_at 3 u32_at) (middle_at room) in
    both Any (λ x. Any x.0 × (Any x.1.0 × ShallowMiddle room x.1.1)) (list_at 1 group_at) (both_at (list_at 2 import_at) a3) (any (list_at 1 group_at))
    (both Any (λ x. Any x.0 × ShallowMiddle room x.1) (list_at 2 import_at) a3 (any (list_at 2 import_at))
    (thens Any (ShallowMiddle room) (list_at 3 u32_at) (middle_at room) (any (list_at 3 u32_at)) (middle room)))

module_shallow : (room : ℕ) (x : All) → ShallowAll room x → IsShallow room (module_of x)
module_shallow room x s =
    let m : ShallowMiddle room x.1.1.1 = s.1.1.1 in
    record { tables = m.0; globals = m.1.1.1.0; elems = m.1.1.1.1.1.1.0; funcs = m.1.1.1.1.1.1.1.1.0; segs = m.1.1.1.1.1.1.1.1.1 }

-- a module that is read
pub module_nests : (room : ℕ) (text rest : List ℕ) (m : Module) → module_at room text ≡ got m rest → IsShallow room m
unfolding Yields
module_nests room text rest m g = bind (IsShallow room) (fixed_at HeaderByte header text) (λ start t. customs_at t >>= λ customs behind. sections_at room behind) m rest g (λ start t i e. bind (IsShallow room) (customs_at t) (λ customs behind. sections_at room behind) m rest e (λ customs behind j f. bind (IsShallow room) (all_at room behind) (λ x end. end_at (is_due x) (module_of x) end) m rest f (λ x end k l. subst (IsShallow room) (end_is (is_due x) (module_of x) m end rest l) (module_shallow room x (all_of room behind end x k)))))
