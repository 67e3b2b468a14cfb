-- A list of instructions that is cut has the tree that is cut.
use Rattle.std.proofs.Common.{Bool, true, false, cond, List, [], ◌∷◌, map, ◌≡◌, refl, ap, ◌∙◌, sym}
use Rattle.gu_syntax.specs.declared.instr.Instr as I
use Rattle.gu_syntax.specs.declared.instr.Instr.{Instr, Row_of-Instr, end_of-Instr, more_of-Instr, more_of-Structured, more_of-Choice, more_of-Guarded}
use Rattle.gu_syntax.specs.declared.module.Func.{Func}
use Rattle.gu_syntax.specs.Code.{Ins, Code, block, loop, choice, try_table, done, next, ins_of, code_of, code_row, instr_of, list_of}
use Rattle.gu_syntax.proofs.Back.{list_back}
use Rattle.gu_syntax.proofs.Shapes.{ins_of-Block, ins_of-Loop, ins_of-If, ins_of-TryTable}
use Rattle.gu_model.specs.Cut.{leaves_ins, cut, cut_ins, cut_list, cut_func}

next_kept : (b : Bool) (j k : Ins) (c : Code) → k ≡ j → code_of (list_of c) ≡ c → next k (code_of (list_of (cond b done c))) ≡ next j (cond b done c)
next_kept true j k c e f = ap (λ x. next x done) e
next_kept false j k c e f = ap (λ x. next x (code_of (list_of c))) e ∙ ap (next j) f

mutual
  unfolding ins_of code_row

  ins_kept : (i : Instr) → ins_of (instr_of (cut_ins (ins_of i))) ≡ cut_ins (ins_of i)
  ins_kept (I.Block' boxed (more_of-Structured ty s r rest)) = ins_of-Block (record { ty = ty; body = record { code = list_of (cut (code_row r)) } }) ∙ ap (block ty) (row_kept r)
  ins_kept (I.Loop' boxed (more_of-Structured ty s r rest)) = ins_of-Loop (record { ty = ty; body = record { code = list_of (cut (code_row r)) } }) ∙ ap (loop ty) (row_kept r)
  ins_kept (I.If' boxed (more_of-Choice ty s r s' r' rest)) = ins_of-If (record { ty = ty; yes = record { code = list_of (cut (code_row r)) }; no = record { code = list_of (cut (code_row r')) } }) ∙ ap (λ c. choice ty c (code_of (list_of (cut (code_row r'))))) (row_kept r) ∙ ap (choice ty (cut (code_row r))) (row_kept r')
  ins_kept (I.TryTable' boxed (more_of-Guarded ty cs s r rest)) = ins_of-TryTable (record { ty = ty; catches = cs; body = record { code = list_of (cut (code_row r)) } }) ∙ ap (try_table ty cs) (row_kept r)
  ins_kept i = refl

  row_kept : {n : _} (r : Row_of-Instr n) → code_of (list_of (cut (code_row r))) ≡ cut (code_row r)
  row_kept end_of-Instr = refl
  row_kept (more_of-Instr i rest) = next_kept (leaves_ins (ins_of i)) (cut_ins (ins_of i)) (ins_of (instr_of (cut_ins (ins_of i)))) (cut (code_row rest)) (ins_kept i) (row_kept rest)

pub list_kept : (is : List Instr) → code_of (cut_list is) ≡ cut (code_of is)
list_kept [] = refl
list_kept (i ∷ is) = next_kept (leaves_ins (ins_of i)) (cut_ins (ins_of i)) (ins_of (instr_of (cut_ins (ins_of i)))) (cut (code_of is)) (ins_kept i) (list_kept is)

-- instructions with the tree that is cut are those that are cut
pub cut_list_is : (old new : List Instr) → code_of new ≡ cut (code_of old) → new ≡ cut_list old
cut_list_is old new e = sym (list_back new) ∙ ap list_of e

-- bodies with the trees that are cut make the module that is cut
abbrev pub AreCut : List Func → List Func → Type 0
AreCut [] [] = Unit {0}
AreCut (f ∷ fs) (g ∷ gs) = (g.ty ≡ f.ty) × (g.locals ≡ f.locals) × (code_of g.body.code ≡ cut (code_of f.body.code)) × AreCut fs gs
AreCut _ _ = ⊥

pub funcs_cut : (old new : List Func) → AreCut old new → new ≡ map cut_func old
funcs_cut [] [] h = refl
funcs_cut [] (g ∷ gs) h = absurd h
funcs_cut (f ∷ fs) [] h = absurd h
funcs_cut (f ∷ fs) (g ∷ gs) h = ap (λ gs. g ∷ gs) (funcs_cut fs gs h.3) ∙ ap (λ x. x ∷ map cut_func fs) (λ i. record { ty = h.0 i; locals = h.1 i; body = record { code = cut_list_is f.body.code g.body.code h.2 i } })
