-- How expressions are spelled (core specification 3.0, 5.4 Instructions, expressions).
use Rattle.std.specs.Prelude.{ℕ, ◌≡◌, ◌⊎◌, ◌+◌, List, [], ◌∷◌, Bool, true, false, nat_eq, if◌then◌else◌}
use Rattle.gu_types.specs.declared.types.HeapType.{HeapType}
use Rattle.gu_types.specs.declared.types.HeapType.TheVariants as H
use Rattle.gu_types.specs.declared.types.ValType.{ValType}
use Rattle.gu_types.specs.declared.types.ValType.TheVariants as V
use Rattle.gu_syntax.specs.Code.{Ins, Code, leaf, block, loop, choice, try_table, done, next, code_of}
use Rattle.gu_syntax.specs.declared.instr.Body.{Body}
use Rattle.gu_syntax.specs.declared.module.Func.{Func}
use Rattle.gu_syntax.specs.Parts.{Parts, Begins, Sized, SpellsU32, SpellsVector, Made}
use Rattle.gu_syntax.specs.Types.{abs_byte, null_byte, SpellsVal}
use Rattle.gu_syntax.specs.Instructions.{SpellsBlockType, SpellsCatch, SpellsLeaf}

abbrev mutual
  -- instructions, and then the byte that ends them
  pub SpellsUntil : ℕ → Code → List ℕ → Type 0
  SpellsUntil end done text = text ≡ end ∷ []
  SpellsUntil end (next ins code) text = Parts (SpellsIns ins) (SpellsUntil end code) text

  -- an instruction. The first branch of an `if` ends with `else`; or with `end` where the second is empty (Control
  -- Instructions)
  pub SpellsIns : Ins → List ℕ → Type 0
  SpellsIns (leaf instr) text = SpellsLeaf instr text
  SpellsIns (block ty code) text = Begins 0x02 (Parts (SpellsBlockType ty) (SpellsUntil 0x0B code)) text
  SpellsIns (loop ty code) text = Begins 0x03 (Parts (SpellsBlockType ty) (SpellsUntil 0x0B code)) text
  SpellsIns (choice ty yes' no') text = Begins 0x04 (Parts (SpellsBlockType ty) (λ back. ((no' ≡ done) × SpellsUntil 0x0B yes' back) ⊎ Parts (SpellsUntil 0x05 yes') (SpellsUntil 0x0B no') back)) text
  SpellsIns (try_table ty catches code) text = Begins 0x1F (Parts (SpellsBlockType ty) (Parts (SpellsVector SpellsCatch catches) (SpellsUntil 0x0B code))) text

-- an expression: instructions, and then the end
abbrev pub SpellsBody : Body → List ℕ → Type 0
SpellsBody body text = SpellsUntil 0x0B (code_of body.code) text

-- a run of locals: how many, and their type (5.5.13 Code Section)
abbrev pub SpellsRun : ℕ × ValType → List ℕ → Type 0
SpellsRun run text = Parts (SpellsU32 run.0) (SpellsVal run.1) text

-- whether two types are spelled alike
abbrev pub same_heap : HeapType → HeapType → Bool
same_heap (H.Abs a) (H.Abs b) = nat_eq (abs_byte a) (abs_byte b)
same_heap (H.Idx m) (H.Idx n) = nat_eq m n
same_heap _ _ = false

abbrev pub same_val : ValType → ValType → Bool
same_val V.I32 V.I32 = true
same_val V.I64 V.I64 = true
same_val (V.Ref a) (V.Ref b) = if nat_eq (null_byte a.null) (null_byte b.null) then same_heap a.heap b.heap else false
same_val _ _ = false

-- a run that is not empty before others: it joins the first of one type with it
abbrev pub joined : ℕ × ValType → List (ℕ × ValType) → List (ℕ × ValType)
joined run [] = run ∷ []
joined run (first ∷ rest) = if same_val run.1 first.1 then (run.0 + first.0, run.1) ∷ rest else run ∷ first ∷ rest

-- the same locals in runs of which none is empty, and no two side by side have one type
abbrev pub merged : List (ℕ × ValType) → List (ℕ × ValType)
merged [] = []
merged (run ∷ runs) = if nat_eq run.0 0 then merged runs else joined run (merged runs)

-- the locals of a function, in any runs: the tree holds them merged (5.5.13 Code Section)
abbrev pub SpellsLocals : List (ℕ × ValType) → List ℕ → Type 0
SpellsLocals locals text = Made (SpellsVector SpellsRun) merged locals text

-- what a code entry says of a function: its locals and its body
abbrev pub Entry : Type 0
Entry = List (ℕ × ValType) × Body

-- a code entry: its size, the locals and the body (5.5.13 Code Section)
abbrev pub SpellsEntry : Entry → List ℕ → Type 0
SpellsEntry entry text = Sized (Parts (SpellsLocals entry.0) (SpellsBody entry.1)) text

-- the code entry of a function, whose type stands in another section
abbrev pub SpellsFunc : Func → List ℕ → Type 0
SpellsFunc func text = SpellsEntry (func.locals, func.body) text
