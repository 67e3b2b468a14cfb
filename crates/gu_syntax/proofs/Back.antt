-- A list of instructions is known by its tree.
use Rattle.std.proofs.Common.{List, [], ◌∷◌, ◌≡◌, refl, ap, ◌∙◌, sym}
use Rattle.gu_syntax.specs.declared.instr.Instr as I
use Rattle.gu_syntax.specs.declared.instr.Instr.{Instr, Row_of-Instr, end_of-Instr, more_of-Instr, more_of-Structured, more_of-Choice, more_of-Guarded}
use Rattle.gu_syntax.specs.declared.instr.Instr.TheVariants.{Block, Loop, If, TryTable, rolls-Block, rolls-Loop, rolls-If, rolls-TryTable, outs-Block', outs-Loop', outs-If', outs-TryTable'}
use Rattle.gu_syntax.specs.declared.instr.Instr.TheViews.{roll-Instr, roll-out-Instr}
use Rattle.gu_syntax.specs.declared.instr.Body.{Body}
use Rattle.gu_syntax.specs.Code.{ins_of, code_of, code_row, instr_of, list_of}

abbrev pub body : List Instr → Body
body is = record { code = is }

mutual
  unfolding ins_of code_row I.TheBlock.shown-the_row-Structured-1 I.TheBlock.shown-the_row-Choice-2 I.TheBlock.shown-the_row-Guarded-3 denote.Hole.Carrier.shown

  pub instr_back : (i : Instr) → instr_of (ins_of i) ≡ i
  instr_back (I.Block' boxed (more_of-Structured ty s r rest)) = ap (λ is. Block (record { ty = ty; body = body is })) (row_back r ∙ sym (I.items_shown-the_row-Instr-0 s r)) ∙ sym (sym (roll-out-Instr _) ∙ ap roll-Instr (outs-Block' boxed (more_of-Structured ty s r rest)) ∙ rolls-Block _)
  instr_back (I.Loop' boxed (more_of-Structured ty s r rest)) = ap (λ is. Loop (record { ty = ty; body = body is })) (row_back r ∙ sym (I.items_shown-the_row-Instr-0 s r)) ∙ sym (sym (roll-out-Instr _) ∙ ap roll-Instr (outs-Loop' boxed (more_of-Structured ty s r rest)) ∙ rolls-Loop _)
  instr_back (I.If' boxed (more_of-Choice ty s r s' r' rest)) = ap (λ is. If (record { ty = ty; yes = body is; no = body (list_of (code_row r')) })) (row_back r ∙ sym (I.items_shown-the_row-Instr-0 s r)) ∙ ap (λ is. If (record { ty = ty; yes = body (I.TheBlock.shown-the_row-Instr-0 s r); no = body is })) (row_back r' ∙ sym (I.items_shown-the_row-Instr-0 s' r')) ∙ sym (sym (roll-out-Instr _) ∙ ap roll-Instr (outs-If' boxed (more_of-Choice ty s r s' r' rest)) ∙ rolls-If _)
  instr_back (I.TryTable' boxed (more_of-Guarded ty cs s r rest)) = ap (λ is. TryTable (record { ty = ty; catches = cs; body = body is })) (row_back r ∙ sym (I.items_shown-the_row-Instr-0 s r)) ∙ sym (sym (roll-out-Instr _) ∙ ap roll-Instr (outs-TryTable' boxed (more_of-Guarded ty cs s r rest)) ∙ rolls-TryTable _)
  instr_back i = refl

  row_back : {n : _} (r : Row_of-Instr n) → list_of (code_row r) ≡ I.items-the_row-Instr n r
  row_back end_of-Instr = refl
  row_back (more_of-Instr i rest) = ap (λ j. j ∷ list_of (code_row rest)) (instr_back i) ∙ ap (λ is. i ∷ is) (row_back rest)

pub list_back : (is : List Instr) → list_of (code_of is) ≡ is
list_back [] = refl
list_back (i ∷ is) = ap (λ j. j ∷ list_of (code_of is)) (instr_back i) ∙ ap (λ js. i ∷ js) (list_back is)

-- one tree is one list
pub code_one : (is js : List Instr) → code_of is ≡ code_of js → is ≡ js
code_one is js same = sym (list_back is) ∙ ap list_of same ∙ list_back js
