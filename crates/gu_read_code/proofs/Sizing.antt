-- Entries, as they are spelled and as they are held.
use Rattle.std.proofs.Common.{ℕ, ◌^◌, ◌≤◌, ◌<◌, ◌≡◌, refl, ap, ◌∙◌, sym, subst, List, [], ◌∷◌, length, take, drop, nat_lt, Bool, true, false, cond, arith, Result, Ok, Err, Option, Some, None}
use Rattle.std.specs.Borrow.{Bor}
use Rattle.gu_types.specs.declared.types.ValType.{ValType}
use Rattle.gu_syntax.specs.declared.instr.Body.{Body}
use Rattle.gu_syntax.specs.Expressions.{merged}
use Rattle.gu_syntax.specs.Reading.{Size, Read, got, stops, refused, ◌>>=◌, made_at, both_at, u32_as, vector_at, whole, content_at, sized_at, run_at, locals_at, body_at, entry_at}
use Rattle.gu_syntax.proofs.Decodes.{bind_got, value_is, rest_is, fault_is, got-stops, stops-got}
use Rattle.gu_read_parts.specs.declared.stop.Stop.{Stop}
use Rattle.gu_read_parts.specs.declared.stop.Stop.TheVariants as S
use Rattle.gu_read_parts.specs.Gives.{Fails, Gives, item_of, front_of, front_as}
use Rattle.gu_read_code.specs.declared.entries.Entry.{Entry}
use Rattle.gu_read_code.specs.Entries.{total, IsEntry, GivesEntry, held_runs, held_of, held, inside_at}
use Rattle.gu_read_code.proofs.Merging.{total-merged}
use Rattle.gu_read_code.proofs.Opening.{fails_bind, fails_as}

-- what is made of what is read
abbrev pub made_of : {X Y : Type 0} → (X → Y) → Read X → Read Y
made_of make read = read >>= λ x rest. got (make x) rest

whole_made : {X Y : Type 0} (make : X → Y) (behind : List ℕ) (read : Read X) → whole behind (made_of make read) ≡ made_of make (whole behind read)
whole_made make behind (got x []) = refl
whole_made make behind (got x (b ∷ rest)) = refl
whole_made make behind (stops fault) = refl

choice_made : {X Y : Type 0} (make : X → Y) (test : Bool) (left : ℕ) (read : Read X) → cond test (refused Size left) (made_of make read) ≡ made_of make (cond test (refused Size left) read)
choice_made make true left read = refl
choice_made make false left read = refl

content_made : {X Y : Type 0} (make : X → Y) (at : List ℕ → Read X) (left size : ℕ) (rest : List ℕ) → content_at (made_at make at) left size rest ≡ made_of make (content_at at left size rest)
content_made {X} {Y} make at left size rest =
    ap (λ (r : Read Y). cond (nat_lt (length rest) size) (refused Size left) r) (whole_made make (drop size rest) (at (take size rest)))
    ∙ choice_made make (nat_lt (length rest) size) left (whole (drop size rest) (at (take size rest)))

size_made : {X Y : Type 0} (make : X → Y) (at : List ℕ → Read X) (left : ℕ) (size : Read ℕ) → (size >>= content_at (made_at make at) left) ≡ made_of make (size >>= content_at at left)
size_made make at left (got size rest) = content_made make at left size rest
size_made make at left (stops fault) = refl

pub sized_made : {X Y : Type 0} (make : X → Y) (at : List ℕ → Read X) (text : List ℕ) → sized_at (made_at make at) text ≡ made_of make (sized_at at text)
sized_made make at text = size_made make at (length text) (u32_as Size text)

-- a content that has its size before it, and what is read of it
content_whole : {X : Type 0} (at : List ℕ → Read X) (left size : ℕ) (text content rest : List ℕ) (test : Bool) → cond test (refused Size left) (got (take size text) (drop size text)) ≡ got content rest → cond test (refused Size left) (whole (drop size text) (at (take size text))) ≡ whole rest (at content)
content_whole at left size text content rest true h = cc
content_whole at left size text content rest false h = ap (λ t. whole t (at (take size text))) (rest_is (take size text) content (drop size text) rest h) ∙ ap (λ t. whole rest (at t)) (value_is (take size text) content (drop size text) rest h)

size_whole : {X : Type 0} (at : List ℕ → Read X) (left : ℕ) (size : Read ℕ) (content rest : List ℕ) → (size >>= λ n text. front_of Size left n text) ≡ got content rest → (size >>= content_at at left) ≡ whole rest (at content)
size_whole at left (got n text) content rest h = content_whole at left n text content rest (nat_lt (length text) n) h
size_whole at left (stops fault) content rest h = cc

pub sized_whole : {X : Type 0} (at : List ℕ → Read X) (text content rest : List ℕ) → front_as Size text ≡ got content rest → sized_at at text ≡ whole rest (at content)
sized_whole at text content rest h = size_whole at (length text) (u32_as Size text) content rest h

-- content that is read alike
size_same : {X : Type 0} (at other : List ℕ → Read X) → ((text : List ℕ) → at text ≡ other text) → (left : ℕ) (size : Read ℕ) → (size >>= content_at at left) ≡ (size >>= content_at other left)
size_same {X} at other h left (got size rest) = ap (λ (r : Read X). cond (nat_lt (length rest) size) (refused Size left) (whole (drop size rest) r)) (h (take size rest))
size_same at other h left (stops fault) = refl

pub sized_same : {X : Type 0} (at other : List ℕ → Read X) → ((text : List ℕ) → at text ≡ other text) → (text : List ℕ) → sized_at at text ≡ sized_at other text
sized_same at other h text = size_same at other h (length text) (u32_as Size text)

abbrev Locals : Type 0
Locals = List (ℕ × ValType)

-- the runs as they are spelled, and the body
abbrev plain_at : (room : ℕ) → List ℕ → Read (Locals × Body)
plain_at room text = both_at (vector_at run_at) (body_at room) text

abbrev merge : Locals × Body → Locals × Body
merge x = (merged x.0, x.1)

pair_merged : (runs : Locals) (body : Read Body) → (body >>= λ b behind. got (merged runs, b) behind) ≡ made_of merge (body >>= λ b behind. got (runs, b) behind)
pair_merged runs (got b behind) = refl
pair_merged runs (stops fault) = refl

both_merged : (room : ℕ) (runs : Read Locals) → (made_of merged runs >>= λ x rest. body_at room rest >>= λ b behind. got (x, b) behind) ≡ made_of merge (runs >>= λ x rest. body_at room rest >>= λ b behind. got (x, b) behind)
both_merged room (got runs rest) = pair_merged runs (body_at room rest)
both_merged room (stops fault) = refl

inside_merged : (room : ℕ) (text : List ℕ) → both_at locals_at (body_at room) text ≡ made_at merge (plain_at room) text
inside_merged room text = both_merged room (vector_at run_at text)

part_merged : (room : ℕ) (text : List ℕ) → entry_at room text ≡ made_of merge (sized_at (plain_at room) text)
part_merged room text = sized_same (both_at locals_at (body_at room)) (made_at merge (plain_at room)) (inside_merged room) text ∙ sized_made merge (plain_at room) text

is_below : (a b : ℕ) → nat_lt a b ≡ true → a < b
is_below a b h = grind (arith, h)

isnt_below : (a b : ℕ) → nat_lt a b ≡ false → b ≤ a
isnt_below a b h = grind (arith, h)

held_is : (runs : Locals) (body : Body) (test : Bool) → nat_lt (total runs) (2 ^ 32) ≡ test → IsEntry (held (runs, body)) (merged runs, body)
held_is runs body true h =
    let P : Bool → Type 0 = λ b. IsEntry (held_of (cond b (Some (merged runs)) None) body) (merged runs, body) in
    subst P (sym h) (refl, omega (arith, is_below (total runs) (2 ^ 32) h, total-merged runs))
held_is runs body false h =
    let P : Bool → Type 0 = λ b. IsEntry (held_of (cond b (Some (merged runs)) None) body) (merged runs, body) in
    let many : 2 ^ 32 ≤ total (merged runs) = omega (arith, isnt_below (total runs) (2 ^ 32) h, total-merged runs) in
    subst P (sym h) many

gives_of : (result : Result (Entry × Bor (List ℕ)) Stop) (read : Read (Locals × Body)) → Gives result (made_of held read) → GivesEntry result (made_of merge read)
gives_of (Ok x) (got pair rest) h =
    let P : Entry → Type 0 = λ entry. IsEntry entry (merge pair) in
    (merge pair, ap (λ (r : List ℕ). got (merge pair) r) (rest_is (held pair) x.0 rest x.1.now h), subst P (value_is (held pair) x.0 rest x.1.now h) (held_is pair.0 pair.1 (nat_lt (total pair.0) (2 ^ 32)) refl))
gives_of (Ok x) (stops fault) h = absurd (stops-got x.0 x.1.now fault h)
gives_of (Err S.NoMemory) read h = tt
gives_of (Err (S.Refused asked left)) (got pair rest) h = absurd (got-stops (held pair) rest (record { item = item_of asked; left = left }) h)
gives_of (Err (S.Refused asked left)) (stops fault) h = ap stops (fault_is {A = Entry} fault (record { item = item_of asked; left = left }) h)

pub entry_gives : (room : ℕ) (text : List ℕ) (result : Result (Entry × Bor (List ℕ)) Stop) → Gives result (sized_at (inside_at room) text) → GivesEntry result (entry_at room text)
entry_gives room text result h =
    let P : Read Entry → Type 0 = λ read. Gives result read in
    let Q : Read (Locals × Body) → Type 0 = λ read. GivesEntry result read in
    subst Q (sym (part_merged room text)) (gives_of result (sized_at (plain_at room) text) (subst P (sized_made held (plain_at room) text) h))

-- what is inside the size

abbrev with_body : (room : ℕ) → Read Locals → Read Entry
with_body room runs = made_of held (runs >>= λ x rest. body_at room rest >>= λ b behind. got (x, b) behind)

abbrev bodied : Locals → Read Body → Read Entry
bodied runs body = made_of held (body >>= λ b behind. got (runs, b) behind)

pub inside_got : (room : ℕ) (bytes mid rest : List ℕ) (found : Option Locals) (body : Body) → made_at held_runs (vector_at run_at) bytes ≡ got found mid → body_at room mid ≡ got body rest → inside_at room bytes ≡ got (held_of found body) rest
inside_got room bytes mid rest found body h k =
    let b = bind_got (vector_at run_at bytes) (λ x behind. got (held_runs x) behind) found mid h in
    ap (with_body room) b.2
    ∙ ap (λ t. bodied b.0 (body_at room t)) (rest_is (held_runs b.0) found b.1 mid b.3)
    ∙ ap (bodied b.0) k
    ∙ ap (λ o. got (held_of o body) rest) (value_is (held_runs b.0) found b.1 mid b.3)

bodied_fails : (stop : Stop) (runs : Locals) (body : Read Body) → Fails stop body → Fails stop (bodied runs body)
bodied_fails stop runs body h = fails_bind stop (body >>= λ b behind. got (runs, b) behind) (λ x behind. got (held x) behind) (fails_bind stop body (λ b behind. got (runs, b) behind) h)

pub inside_fails : (stop : Stop) (room : ℕ) (bytes mid : List ℕ) (found : Option Locals) → made_at held_runs (vector_at run_at) bytes ≡ got found mid → Fails stop (body_at room mid) → Fails stop (inside_at room bytes)
inside_fails stop room bytes mid found h k =
    let b = bind_got (vector_at run_at bytes) (λ x behind. got (held_runs x) behind) found mid h in
    fails_as stop (bodied b.0 (body_at room mid)) (inside_at room bytes) (ap (with_body room) b.2 ∙ ap (λ t. bodied b.0 (body_at room t)) (rest_is (held_runs b.0) found b.1 mid b.3)) (bodied_fails stop b.0 (body_at room mid) k)
