-- Codes that tables lack.
use Rattle.std.proofs.Common.{ℕ, ◌≡◌, ◌≢◌, refl, ap, ◌∙◌, sym, List, [], ◌∷◌, nat_eq, false, arith, Option, Some}
use Rattle.std.proofs.lemmas.Bool.{cond-false}
use Rattle.gu_bytes.specs.Reading.{unsigned_at}
use Rattle.gu_optab.specs.Operators.{operator_with}
use Rattle.gu_syntax.specs.declared.instr.Instr.{Instr}
use Rattle.gu_syntax.specs.Instructions.{Form, Unknown, row_or, form_of, operator_form, plain_rows, aggregate_rows, bulk_rows}
use Rattle.gu_syntax.specs.Reading.{Opcode, Read, ◌>>=◌, number, form_at, leaf_at, prefixed_at}
use Rattle.gu_read_code.specs.Codes.{Lacks, variable_codes, control_codes, reference_codes, load_codes, store_codes, prefix_codes}

abbrev pub codes_of : {X : Type 0} → List (ℕ × X) → List ℕ
codes_of [] = []
codes_of (row ∷ rows) = row.0 ∷ codes_of rows

pub differ : (a b : ℕ) → a ≢ b → nat_eq a b ≡ false
differ a b h = grind (arith, h)

pub lacks_row : {X : Type 0} (other : X) (rows : List (ℕ × X)) (code : ℕ) → Lacks (codes_of rows) code → row_or other rows code ≡ other
lacks_row other [] code h = refl
lacks_row other (row ∷ rows) code h = cond-false (nat_eq code row.0) row.1 (row_or other rows code) (differ code row.0 h.0) ∙ lacks_row other rows code h.1

plain_lacks : (op : ℕ) → Lacks variable_codes op → Lacks control_codes op → Lacks reference_codes op → Lacks load_codes op → Lacks store_codes op → Lacks (codes_of plain_rows) op
plain_lacks op v c r l s = (c.0, (c.1.0, (c.1.1.0, (c.1.1.1.0, (c.1.1.1.1.0, (c.1.1.1.1.1.0, (c.1.1.1.1.1.1.0, (c.1.1.1.1.1.1.1.0, (c.1.1.1.1.1.1.1.1.0, (c.1.1.1.1.1.1.1.1.1.0, (c.1.1.1.1.1.1.1.1.1.1.0, (c.1.1.1.1.1.1.1.1.1.1.1.0, (c.1.1.1.1.1.1.1.1.1.1.1.1.0, (c.1.1.1.1.1.1.1.1.1.1.1.1.1.0, (r.0, (r.1.0, (r.1.1.0, (v.0, (v.1.0, (v.1.1.0, (v.1.1.1.0, (v.1.1.1.1.0, (v.1.1.1.1.1.0, (v.1.1.1.1.1.1.0, (l.0, (l.1.0, (l.1.1.0, (l.1.1.1.0, (l.1.1.1.1.0, (l.1.1.1.1.1.0, (l.1.1.1.1.1.1.0, (l.1.1.1.1.1.1.1.0, (l.1.1.1.1.1.1.1.1.0, (l.1.1.1.1.1.1.1.1.1.0, (l.1.1.1.1.1.1.1.1.1.1.0, (l.1.1.1.1.1.1.1.1.1.1.1.0, (s.0, (s.1.0, (s.1.1.0, (s.1.1.1.0, (s.1.1.1.1.0, (s.1.1.1.1.1.0, (s.1.1.1.1.1.1.0, (v.1.1.1.1.1.1.1.0, (v.1.1.1.1.1.1.1.1.0, (v.1.1.1.1.1.1.1.1.1.0, (v.1.1.1.1.1.1.1.1.1.1.0, (r.1.1.1.0, (r.1.1.1.1.0, (r.1.1.1.1.1.0, (r.1.1.1.1.1.1.0, (r.1.1.1.1.1.1.1.0, (r.1.1.1.1.1.1.1.1.0, (r.1.1.1.1.1.1.1.1.1.0, tt))))))))))))))))))))))))))))))))))))))))))))))))))))))

-- the instruction of a code that is in no table but perhaps the operators'
pub operator_leaf : (op left : ℕ) (text : List ℕ) → Lacks variable_codes op → Lacks control_codes op → Lacks reference_codes op → Lacks load_codes op → Lacks store_codes op → Lacks prefix_codes op → leaf_at left op text ≡ form_at left (operator_form (operator_with op)) text
operator_leaf op left text v c r l s p =
    ap (λ (read : List ℕ → Read Instr). read text) (lacks_row (λ (rest : List ℕ). form_at left (form_of op) rest) ((0xFB, prefixed_at aggregate_rows left) ∷ (0xFC, prefixed_at bulk_rows left) ∷ []) op p)
    ∙ ap (λ (form : Form). form_at left form text) (lacks_row (operator_form (operator_with op)) plain_rows op (plain_lacks op v c r l s))

-- an instruction by the number behind FB
pub aggregate_leaf : (op left place code : ℕ) (text rest : List ℕ) → op ≡ 0xFB → place ≡ left → Some (code, rest) ≡ unsigned_at 32 text → form_at place (row_or Unknown aggregate_rows code) rest ≡ leaf_at left op text
aggregate_leaf op left place code text rest is there number_is =
    ap (λ (found : Option (ℕ × List ℕ)). number Opcode place found >>= λ n behind. form_at place (row_or Unknown aggregate_rows n) behind) number_is
    ∙ ap (λ l. leaf_at l 0xFB text) there
    ∙ ap (λ o. leaf_at left o text) (sym is)
