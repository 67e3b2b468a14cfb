-- Instructions that hold code, and those that hold none.
use Rattle.std.proofs.Common.{ℕ, suc, length, ◌-◌, ◌<◌, ◌≡◌, refl, ap, ◌∙◌, sym, List, [], ◌∷◌, ◌++◌, Bool, true, false, Result, Ok, Err}
use Rattle.std.specs.Borrow.{Bor}
use Rattle.gu_syntax.specs.Code.{Ins, Code, leaf, block, loop, choice, try_table, done, next, ins_of}
use Rattle.gu_syntax.specs.declared.instr.BlockType.{BlockType}
use Rattle.gu_syntax.specs.declared.instr.Catch.{Catch}
use Rattle.gu_syntax.specs.declared.instr.Instr.{Instr}
use Rattle.gu_syntax.specs.Reading.{Read, got, ◌>>=◌, made_at, vector_at, block_type_at, catch_at, opened, Nested, block_at, second_at, if_at, try_at, leaf_at, ins_at, until_at}
use Rattle.gu_syntax.proofs.Decodes.{Heads}
use Rattle.gu_syntax.proofs.Instructions.{leaf_heads, spells_leaf}
use Rattle.gu_syntax.proofs.Expressions.{tree_back}
use Rattle.gu_read_parts.specs.declared.stop.Stop.{Stop}
use Rattle.gu_read_parts.specs.declared.stop.Stop.TheVariants as S
use Rattle.gu_read_parts.specs.Gives.{Fails, Gives, GivesAs}
use Rattle.gu_read_code.specs.Codes.{Lacks, block_codes}
use Rattle.gu_read_code.proofs.Rows.{lacks_row}
use Rattle.gu_read_code.proofs.Turns.{opened_room, GoesOn, goes_on, GivesIns}

-- what goes on behind a stop stops there
pub fails_bind : {X Y : Type 0} (stop : Stop) (read : Read X) (f : X → List ℕ → Read Y) → Fails stop read → Fails stop (read >>= f)
fails_bind S.NoMemory read f h = tt
fails_bind {X} (S.Refused asked left) read f h = ap (λ (r : Read X). r >>= f) h

pub fails_as : {X : Type 0} (stop : Stop) (read other : Read X) → other ≡ read → Fails stop read → Fails stop other
fails_as S.NoMemory read other e h = tt
fails_as (S.Refused asked left) read other e h = e ∙ h

-- behind the block type, where a block may be opened
pub typed : (room left : ℕ) (behind : ℕ → BlockType → List ℕ → Read Ins) (bytes rest : List ℕ) (ty : BlockType) → 0 < room → block_type_at bytes ≡ got ty rest → opened room (λ lower text. block_type_at text >>= behind lower) left bytes ≡ behind (room - 1) ty rest
typed room left behind bytes rest ty low e = opened_room room left (λ lower text. block_type_at text >>= behind lower) bytes low ∙ ap (λ (r : Read BlockType). r >>= behind (room - 1)) e

-- a block or a loop

abbrev block_behind : (BlockType → Code → Ins) → Nested → ℕ → BlockType → List ℕ → Read Ins
block_behind make nested lower ty text = nested lower false text >>= λ code behind. got (make ty code.0) behind

pub block_got : (make : BlockType → Code → Ins) (nested : Nested) (room left : ℕ) (bytes rest after : List ℕ) (ty : BlockType) (x : Code × Bool) → 0 < room → block_type_at bytes ≡ got ty rest → nested (room - 1) false rest ≡ got x after → opened room (λ lower text. block_at make (nested lower false) text) left bytes ≡ got (make ty x.0) after
block_got make nested room left bytes rest after ty x low e h = typed room left (block_behind make nested) bytes rest ty low e ∙ ap (λ (r : Read (Code × Bool)). r >>= λ code behind. got (make ty code.0) behind) h

pub block_fails : (stop : Stop) (make : BlockType → Code → Ins) (nested : Nested) (room left : ℕ) (bytes rest : List ℕ) (ty : BlockType) → 0 < room → block_type_at bytes ≡ got ty rest → Fails stop (nested (room - 1) false rest) → Fails stop (opened room (λ lower text. block_at make (nested lower false) text) left bytes)
block_fails stop make nested room left bytes rest ty low e h = fails_as stop (block_behind make nested (room - 1) ty rest) (opened room (λ lower text. block_at make (nested lower false) text) left bytes) (typed room left (block_behind make nested) bytes rest ty low e) (fails_bind stop (nested (room - 1) false rest) (λ code behind. got (make ty code.0) behind) h)

-- an if

abbrev if_behind : Nested → ℕ → BlockType → List ℕ → Read Ins
if_behind nested lower ty text = nested lower true text >>= λ one middle. second_at ty (nested lower false) one middle

pub first_fails : (stop : Stop) (nested : Nested) (room left : ℕ) (bytes rest : List ℕ) (ty : BlockType) → 0 < room → block_type_at bytes ≡ got ty rest → Fails stop (nested (room - 1) true rest) → Fails stop (opened room (λ lower text. if_at (nested lower true) (nested lower false) text) left bytes)
first_fails stop nested room left bytes rest ty low e h = fails_as stop (if_behind nested (room - 1) ty rest) (opened room (λ lower text. if_at (nested lower true) (nested lower false) text) left bytes) (typed room left (if_behind nested) bytes rest ty low e) (fails_bind stop (nested (room - 1) true rest) (λ one middle. second_at ty (nested (room - 1) false) one middle) h)

-- behind the first branch
first_got : (nested : Nested) (room left : ℕ) (bytes rest middle : List ℕ) (ty : BlockType) (one : Code) (split : Bool) (is : Bool) → 0 < room → block_type_at bytes ≡ got ty rest → nested (room - 1) true rest ≡ got (one, split) middle → split ≡ is → opened room (λ lower text. if_at (nested lower true) (nested lower false) text) left bytes ≡ second_at ty (nested (room - 1) false) (one, is) middle
first_got nested room left bytes rest middle ty one split is low e h same =
    typed room left (if_behind nested) bytes rest ty low e
    ∙ ap (λ (r : Read (Code × Bool)). r >>= λ x after. second_at ty (nested (room - 1) false) x after) h
    ∙ ap (λ (b : Bool). second_at ty (nested (room - 1) false) (one, b) middle) same

pub if_alone : (nested : Nested) (room left : ℕ) (bytes rest middle : List ℕ) (ty : BlockType) (one : Code) (split : Bool) → 0 < room → block_type_at bytes ≡ got ty rest → nested (room - 1) true rest ≡ got (one, split) middle → split ≡ false → opened room (λ lower text. if_at (nested lower true) (nested lower false) text) left bytes ≡ got (choice ty one done) middle
if_alone nested room left bytes rest middle ty one split low e h same = first_got nested room left bytes rest middle ty one split false low e h same

pub if_got : (nested : Nested) (room left : ℕ) (bytes rest middle after : List ℕ) (ty : BlockType) (one : Code) (split : Bool) (x : Code × Bool) → 0 < room → block_type_at bytes ≡ got ty rest → nested (room - 1) true rest ≡ got (one, split) middle → split ≡ true → nested (room - 1) false middle ≡ got x after → opened room (λ lower text. if_at (nested lower true) (nested lower false) text) left bytes ≡ got (choice ty one x.0) after
if_got nested room left bytes rest middle after ty one split x low e h same k = first_got nested room left bytes rest middle ty one split true low e h same ∙ ap (λ (r : Read (Code × Bool)). r >>= λ other behind. got (choice ty one other.0) behind) k

pub second_fails : (stop : Stop) (nested : Nested) (room left : ℕ) (bytes rest middle : List ℕ) (ty : BlockType) (one : Code) (split : Bool) → 0 < room → block_type_at bytes ≡ got ty rest → nested (room - 1) true rest ≡ got (one, split) middle → split ≡ true → Fails stop (nested (room - 1) false middle) → Fails stop (opened room (λ lower text. if_at (nested lower true) (nested lower false) text) left bytes)
second_fails stop nested room left bytes rest middle ty one split low e h same k = fails_as stop (second_at ty (nested (room - 1) false) (one, true) middle) (opened room (λ lower text. if_at (nested lower true) (nested lower false) text) left bytes) (first_got nested room left bytes rest middle ty one split true low e h same) (fails_bind stop (nested (room - 1) false middle) (λ other behind. got (choice ty one other.0) behind) k)

-- a try_table

abbrev caught : Nested → ℕ → BlockType → List Catch → List ℕ → Read Ins
caught nested lower ty catches text = nested lower false text >>= λ code behind. got (try_table ty catches code.0) behind

abbrev try_behind : Nested → ℕ → BlockType → List ℕ → Read Ins
try_behind nested lower ty text = vector_at catch_at text >>= caught nested lower ty

pub catches_fail : (stop : Stop) (nested : Nested) (room left : ℕ) (bytes rest : List ℕ) (ty : BlockType) → 0 < room → block_type_at bytes ≡ got ty rest → Fails stop (vector_at catch_at rest) → Fails stop (opened room (λ lower text. try_at (nested lower false) text) left bytes)
catches_fail stop nested room left bytes rest ty low e h = fails_as stop (try_behind nested (room - 1) ty rest) (opened room (λ lower text. try_at (nested lower false) text) left bytes) (typed room left (try_behind nested) bytes rest ty low e) (fails_bind stop (vector_at catch_at rest) (caught nested (room - 1) ty) h)

caught_is : (nested : Nested) (room left : ℕ) (bytes rest middle : List ℕ) (ty : BlockType) (catches : List Catch) → 0 < room → block_type_at bytes ≡ got ty rest → vector_at catch_at rest ≡ got catches middle → opened room (λ lower text. try_at (nested lower false) text) left bytes ≡ caught nested (room - 1) ty catches middle
caught_is nested room left bytes rest middle ty catches low e h = typed room left (try_behind nested) bytes rest ty low e ∙ ap (λ (r : Read (List Catch)). r >>= caught nested (room - 1) ty) h

pub try_got : (nested : Nested) (room left : ℕ) (bytes rest middle after : List ℕ) (ty : BlockType) (catches : List Catch) (x : Code × Bool) → 0 < room → block_type_at bytes ≡ got ty rest → vector_at catch_at rest ≡ got catches middle → nested (room - 1) false middle ≡ got x after → opened room (λ lower text. try_at (nested lower false) text) left bytes ≡ got (try_table ty catches x.0) after
try_got nested room left bytes rest middle after ty catches x low e h k = caught_is nested room left bytes rest middle ty catches low e h ∙ ap (λ (r : Read (Code × Bool)). r >>= λ code behind. got (try_table ty catches code.0) behind) k

pub try_fails : (stop : Stop) (nested : Nested) (room left : ℕ) (bytes rest middle : List ℕ) (ty : BlockType) (catches : List Catch) → 0 < room → block_type_at bytes ≡ got ty rest → vector_at catch_at rest ≡ got catches middle → Fails stop (nested (room - 1) false middle) → Fails stop (opened room (λ lower text. try_at (nested lower false) text) left bytes)
try_fails stop nested room left bytes rest middle ty catches low e h k = fails_as stop (caught nested (room - 1) ty catches middle) (opened room (λ lower text. try_at (nested lower false) text) left bytes) (caught_is nested room left bytes rest middle ty catches low e h) (fails_bind stop (nested (room - 1) false middle) (λ code behind. got (try_table ty catches code.0) behind) k)

-- instructions that hold no code

same_next : (i j : Ins) (c d : Code) → next i c ≡ next j d → i ≡ j
same_next i j c d h = cc

-- what is read of a code that opens no block holds no code
pub leaf_ins : (left op : ℕ) (text rest : List ℕ) (instr : Instr) → leaf_at left op text ≡ got instr rest → ins_of instr ≡ leaf instr
unfolding Heads
leaf_ins left op text rest instr h =
    let t = (leaf_heads 0 op).taken left text rest instr h in
    same_next (ins_of instr) (leaf instr) done done (tree_back (next (leaf instr) done) 0x0B ((op ∷ t.front) ++ 0x0B ∷ []) (record { front = op ∷ t.front; back = 0x0B ∷ []; whole = refl; first = spells_leaf op instr t.front t.spells; second = refl }))

flat_row : (nested : Nested) (room left op : ℕ) (text : List ℕ) → Lacks (0x02 ∷ 0x03 ∷ 0x04 ∷ 0x1F ∷ []) op → ins_at nested room left op text ≡ made_at leaf (leaf_at left op) text
flat_row nested room left op text h = ap (λ (read : List ℕ → Read Ins). read text) (lacks_row (made_at leaf (leaf_at left op)) (
    (0x02, opened room (λ lower rest. block_at block (nested lower false) rest) left) ∷
    (0x03, opened room (λ lower rest. block_at loop (nested lower false) rest) left) ∷
    (0x04, opened room (λ lower rest. if_at (nested lower true) (nested lower false) rest) left) ∷
    (0x1F, opened room (λ lower rest. try_at (nested lower false) rest) left) ∷ []) op h)

pub flat_got : (nested : Nested) (room left op : ℕ) (text rest : List ℕ) (instr : Instr) → Lacks (0x02 ∷ 0x03 ∷ 0x04 ∷ 0x1F ∷ []) op → leaf_at left op text ≡ got instr rest → ins_at nested room left op text ≡ got (ins_of instr) rest
flat_got nested room left op text rest instr h e =
    flat_row nested room left op text h
    ∙ ap (λ (r : Read Instr). r >>= λ i behind. got (leaf i) behind) e
    ∙ ap (λ (i : Ins). got i rest) (sym (leaf_ins left op text rest instr e))

pub flat_fails : (stop : Stop) (nested : Nested) (room left op : ℕ) (text : List ℕ) → Lacks (0x02 ∷ 0x03 ∷ 0x04 ∷ 0x1F ∷ []) op → Fails stop (leaf_at left op text) → Fails stop (ins_at nested room left op text)
flat_fails stop nested room left op text h e = fails_as stop (made_at leaf (leaf_at left op) text) (ins_at nested room left op text) (flat_row nested room left op text h) (fails_bind stop (leaf_at left op text) (λ i behind. got (leaf i) behind) e)

pub flat_gives : (result : Result (Instr × Bor (List ℕ)) Stop) (nested : Nested) (room left op : ℕ) (text : List ℕ) → Lacks (0x02 ∷ 0x03 ∷ 0x04 ∷ 0x1F ∷ []) op → Gives result (leaf_at left op text) → GivesAs ins_of result (ins_at nested room left op text)
flat_gives (Ok x) nested room left op text h e = flat_got nested room left op text x.1.now x.0 h e
flat_gives (Err stop) nested room left op text h e = flat_fails stop nested room left op text h e

-- an instruction that ends no block and opens none
pub flat_goes : (split : Bool) (op : ℕ) → Lacks block_codes op → GoesOn split op
flat_goes split op lacks = goes_on split op lacks.1.1.1.1.0 (λ _. lacks.1.1.1.0)

pub short_got : (room op : ℕ) (more rest : List ℕ) (instr : Instr) → Lacks block_codes op → leaf_at (suc (length more)) op more ≡ got instr rest → GivesIns room op more (got (ins_of instr) rest)
short_got room op more rest instr lacks e fuel enough = flat_got (until_at fuel) room (suc (length more)) op more rest instr (lacks.0, (lacks.1.0, (lacks.1.1.0, (lacks.1.1.1.1.1.0, tt)))) e
