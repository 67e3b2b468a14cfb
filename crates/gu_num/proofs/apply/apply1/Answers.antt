use Rattle.std.proofs.Common.{ℕ, ◌≡◌, ◌∙◌, ap, subst, inl, inr, arith}
use Rattle.gu_num.proofs.Rows.{operands_of, operands_of-kind_at}
use Rattle.gu_num.proofs.apply.apply1.Goals as goal

pub unreachable-requires : goal.unreachable-requires
unreachable-requires c =
    let one : operands_of c.kind_of.result ≡ 1 = ap operands_of c.kind_of.ensures ∙ operands_of-kind_at c.args.op.row c.requires.row ∙ c.requires.one_operand in
    elim c.in-Compare.is [
      | inl other ↦ let two : ◌≡◌ {A = ℕ} 2 1 = subst (λ k. operands_of k ≡ 1) other.1 one in omega arith
      | inr other ↦ let two : ◌≡◌ {A = ℕ} 2 1 = subst (λ k. operands_of k ≡ 1) other.1 one in omega arith
    ]
