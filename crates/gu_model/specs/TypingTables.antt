-- The rows of tables and element segments (core specification 3.0, 3.4 Instructions, table instructions), and of
-- globals (variable instructions).
use Rattle.std.specs.Prelude.{ℕ, Bool, [], ◌∷◌, Option, Some, slice_get, nat_lt, length}
use Rattle.gu_types.specs.declared.types.RefType.{RefType}
use Rattle.gu_types.specs.declared.types.ValType.{ValType}
use Rattle.gu_types.specs.declared.types.ValType.TheVariants.{I32, Ref}
use Rattle.gu_rec.specs.Sub.{is_sub_ref}
use Rattle.gu_syntax.specs.declared.instr.Instr.{Instr}
use Rattle.gu_syntax.specs.declared.instr.Instr.TheVariants as I
use Rattle.gu_model.specs.TypingContext.{Context, ◌>>=◌, given}
use Rattle.gu_model.specs.TypingRows.{Row, goes}
use Rattle.gu_model.specs.TypingReferences.{reference_row}

-- an instruction on a table, whose operands and results its entries' type gives
abbrev pub on_table : Context → (table : ℕ) → (RefType → Row) → Option Row
on_table C x row = slice_get C.tables x >>= λ t. Some (row t)

-- copies to a table from references of a type, which is below that of the table's entries
abbrev pub copies : Context → (table : ℕ) → RefType → Option Row
copies C x from = slice_get C.tables x >>= λ t. given (is_sub_ref C.types from t) (Some (goes (I32 ∷ I32 ∷ I32 ∷ []) []))

-- a write of a global that may be written
abbrev pub sets : ValType × Bool → Option Row
sets g = given g.1 (Some (goes (g.0 ∷ []) []))

abbrev pub table_row : Context → Instr → Option Row
table_row C (I.GlobalGet x) = slice_get C.globals x >>= λ g. Some (goes [] (g.0 ∷ []))
table_row C (I.GlobalSet x) = slice_get C.globals x >>= λ g. sets g
table_row C (I.TableGet x) = on_table C x (λ t. goes (I32 ∷ []) (Ref t ∷ []))
table_row C (I.TableSet x) = on_table C x (λ t. goes (I32 ∷ Ref t ∷ []) [])
table_row C (I.TableSize x) = on_table C x (λ t. goes [] (I32 ∷ []))
table_row C (I.TableGrow x) = on_table C x (λ t. goes (Ref t ∷ I32 ∷ []) (I32 ∷ []))
table_row C (I.TableFill x) = on_table C x (λ t. goes (I32 ∷ Ref t ∷ I32 ∷ []) [])
table_row C (I.TableCopy x y) = slice_get C.tables y >>= λ from. copies C x from
table_row C (I.TableInit e x) = slice_get C.elems e >>= λ from. copies C x from
table_row C (I.ElemDrop e) = given (nat_lt e (length C.elems)) (Some (goes [] []))
table_row C i = reference_row C i
