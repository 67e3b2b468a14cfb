use Rattle.std.proofs.Common.{ℕ, ◌≡◌, ◌∙◌, ap, subst, sym, arith, rules}
use Rattle.gu_num.proofs.Rows.{operands_of, operands_of-kind_at, combines_i64, held_64}
use Rattle.gu_num.proofs.apply.apply2.Goals as goal

pub unreachable-requires : goal.unreachable-requires
unreachable-requires c =
    let two : operands_of c.kind_of.result ≡ 2 = ap operands_of c.kind_of.ensures ∙ operands_of-kind_at c.args.op.row c.requires.row ∙ c.requires.two_operands in
    let one : ◌≡◌ {A = ℕ} 1 2 = subst (λ k. operands_of k ≡ 2) c.in-One.is two in
    omega arith

pub returns-in-I64-operand_type-clause-held : goal.returns-in-I64-operand_type-clause-held
returns-in-I64-operand_type-clause-held c =
    let from = ap (λ p. p.1) (sym c.operands-operand_type.ensures) ∙ c.in-I64-operand_type.is in
    held_64 c.combined_64.result _ (combines_i64 c.args.op.row c.in-Combine.operator c.requires.row (sym c.kind_of.ensures ∙ c.in-Combine.is) from) (search rules)
