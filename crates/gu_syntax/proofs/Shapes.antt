-- What the tree of each kind of instruction is. All names that the toolchain makes of the
-- recursive types are used here and in `Back` alone.
use Rattle.std.proofs.Common.{List, [], ◌∷◌, ◌≡◌, ◌≢◌, refl, ap, ◌∙◌, sym, Bool, true, false}
use Rattle.gu_syntax.specs.declared.instr.Instr as I
use Rattle.gu_syntax.specs.declared.instr.Instr.{Instr, Row_of-Instr, end_of-Instr, more_of-Instr, more_of-Structured, more_of-Choice, more_of-Guarded, the_lemmas}
use Rattle.gu_syntax.specs.declared.instr.Instr.TheVariants.{Block, Loop, If, TryTable, rolls-Block, rolls-Loop, rolls-If, rolls-TryTable, outs-Block', outs-Loop', outs-If', outs-TryTable'}
use Rattle.gu_syntax.specs.declared.instr.Instr.TheViews.{roll-Instr, roll-out-Instr}
use Rattle.gu_syntax.specs.declared.instr.Structured.{Structured}
use Rattle.gu_syntax.specs.declared.instr.Choice.{Choice}
use Rattle.gu_syntax.specs.declared.instr.Guarded.{Guarded}
use Rattle.gu_syntax.specs.Code.{leaf, block, loop, choice, try_table, next, ins_of, code_of, code_row}

row_is : (is : List Instr) → code_row (I.TheBlock.hidden-the_row-Instr-0 is) ≡ code_of is
unfolding code_row I.TheBlock.hidden-the_row-Instr-0 denote.Hole.Carrier.hidden
row_is [] = refl
row_is (i ∷ is) = ap (next (ins_of i)) (row_is is)

pub ins_of-Block : (b : Structured) → ins_of (Block b) ≡ block b.ty (code_of b.body.code)
unfolding ins_of I.TheBlock.hidden-the_row-Structured-1 denote.Hole.Carrier.hidden
ins_of-Block b = ap (block b.ty) (row_is b.body.code)

pub ins_of-Loop : (b : Structured) → ins_of (Loop b) ≡ loop b.ty (code_of b.body.code)
unfolding ins_of I.TheBlock.hidden-the_row-Structured-1 denote.Hole.Carrier.hidden
ins_of-Loop b = ap (loop b.ty) (row_is b.body.code)

pub ins_of-If : (c : Choice) → ins_of (If c) ≡ choice c.ty (code_of c.yes.code) (code_of c.no.code)
unfolding ins_of I.TheBlock.hidden-the_row-Choice-2 denote.Hole.Carrier.hidden
ins_of-If c = ap (λ x. choice c.ty x (code_row (I.TheBlock.hidden-the_row-Instr-0 c.no.code))) (row_is c.yes.code) ∙ ap (choice c.ty (code_of c.yes.code)) (row_is c.no.code)

pub ins_of-TryTable : (g : Guarded) → ins_of (TryTable g) ≡ try_table g.ty g.catches (code_of g.body.code)
unfolding ins_of I.TheBlock.hidden-the_row-Guarded-3 denote.Hole.Carrier.hidden
ins_of-TryTable g = ap (try_table g.ty g.catches) (row_is g.body.code)

pub ins_of-leaf : (i : Instr) → ((b : Structured) → i ≢ Block b) → ((b : Structured) → i ≢ Loop b) → ((c : Choice) → i ≢ If c) → ((g : Guarded) → i ≢ TryTable g) → ins_of i ≡ leaf i
unfolding ins_of
ins_of-leaf (I.Block' boxed (more_of-Structured ty s r rest)) p q o t = absurd (p _ (sym (roll-out-Instr _) ∙ ap roll-Instr (outs-Block' boxed (more_of-Structured ty s r rest)) ∙ rolls-Block _))
ins_of-leaf (I.Loop' boxed (more_of-Structured ty s r rest)) p q o t = absurd (q _ (sym (roll-out-Instr _) ∙ ap roll-Instr (outs-Loop' boxed (more_of-Structured ty s r rest)) ∙ rolls-Loop _))
ins_of-leaf (I.If' boxed (more_of-Choice ty s r s' r' rest)) p q o t = absurd (o _ (sym (roll-out-Instr _) ∙ ap roll-Instr (outs-If' boxed (more_of-Choice ty s r s' r' rest)) ∙ rolls-If _))
ins_of-leaf (I.TryTable' boxed (more_of-Guarded ty cs s r rest)) p q o t = absurd (t _ (sym (roll-out-Instr _) ∙ ap roll-Instr (outs-TryTable' boxed (more_of-Guarded ty cs s r rest)) ∙ rolls-TryTable _))
ins_of-leaf i p q o t = refl

-- whether an instruction holds code
abbrev pub has_code : Instr → Bool
has_code (I.Block' boxed row) = true
has_code (I.Loop' boxed row) = true
has_code (I.If' boxed row) = true
has_code (I.TryTable' boxed row) = true
has_code _ = false

pub ins_of-plain : (i : Instr) → has_code i ≡ false → ins_of i ≡ leaf i
unfolding ins_of
ins_of-plain (I.Block' boxed row) h = cc
ins_of-plain (I.Loop' boxed row) h = cc
ins_of-plain (I.If' boxed row) h = cc
ins_of-plain (I.TryTable' boxed row) h = cc
ins_of-plain i h = refl

pub ruleset shapes = (ins_of-Block, ins_of-Loop, ins_of-If, ins_of-TryTable, ins_of-plain, the_lemmas)
