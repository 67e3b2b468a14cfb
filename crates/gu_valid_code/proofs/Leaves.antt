-- The instructions that go by their rows.
use Rattle.std.proofs.Common.{ℕ, ◌≡◌, ◌≢◌, refl, false}
use Rattle.gu_syntax.specs.declared.instr.BranchTable.{BranchTable}
use Rattle.gu_syntax.specs.declared.instr.Instr.{Instr}
use Rattle.gu_syntax.specs.declared.instr.Instr.TheVariants as I
use Rattle.gu_model.specs.TypingContext.{Context, Around}
use Rattle.gu_model.specs.TypingShape.{Shape, type_row}
use Rattle.gu_model.specs.Typing.{type_leaf, control_row}
use Rattle.gu_valid_code.specs.Leaf.{sets_local}

pub by_row : (C : Context) (a : Around) (i : Instr) (s : Shape) → i ≢ I.Drop → i ≢ I.Select → ((x : ℕ) → i ≢ I.LocalGet x) → i ≢ I.RefIsNull → i ≢ I.RefAsNonNull → ((l : ℕ) → i ≢ I.BrOnNull l) → ((l : ℕ) → i ≢ I.BrOnNonNull l) → ((table : BranchTable) → i ≢ I.BrTable table) → i ≢ I.AnyConvertExtern → i ≢ I.ExternConvertAny → sets_local i ≡ false → type_leaf C a i s ≡ type_row C.types (control_row C a i) s
by_row C a I.Drop s p1 p2 p3 p4 p5 p6 p7 p8 p9 p10 h = absurd (p1 refl)
by_row C a I.Select s p1 p2 p3 p4 p5 p6 p7 p8 p9 p10 h = absurd (p2 refl)
by_row C a (I.LocalGet x) s p1 p2 p3 p4 p5 p6 p7 p8 p9 p10 h = absurd (p3 x refl)
by_row C a I.RefIsNull s p1 p2 p3 p4 p5 p6 p7 p8 p9 p10 h = absurd (p4 refl)
by_row C a I.RefAsNonNull s p1 p2 p3 p4 p5 p6 p7 p8 p9 p10 h = absurd (p5 refl)
by_row C a (I.BrOnNull l) s p1 p2 p3 p4 p5 p6 p7 p8 p9 p10 h = absurd (p6 l refl)
by_row C a (I.BrOnNonNull l) s p1 p2 p3 p4 p5 p6 p7 p8 p9 p10 h = absurd (p7 l refl)
by_row C a (I.BrTable table) s p1 p2 p3 p4 p5 p6 p7 p8 p9 p10 h = absurd (p8 table refl)
by_row C a I.AnyConvertExtern s p1 p2 p3 p4 p5 p6 p7 p8 p9 p10 h = absurd (p9 refl)
by_row C a I.ExternConvertAny s p1 p2 p3 p4 p5 p6 p7 p8 p9 p10 h = absurd (p10 refl)
by_row C a (I.LocalSet x) s p1 p2 p3 p4 p5 p6 p7 p8 p9 p10 h = absurd (let z : ⊥ = cc in z)
by_row C a (I.LocalTee x) s p1 p2 p3 p4 p5 p6 p7 p8 p9 p10 h = absurd (let z : ⊥ = cc in z)
by_row C a i s p1 p2 p3 p4 p5 p6 p7 p8 p9 p10 h = refl
