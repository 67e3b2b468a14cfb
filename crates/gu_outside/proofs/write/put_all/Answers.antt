use Rattle.std.proofs.Common.{rules, ◌≡◌, ℕ, ◌-◌, List, Option, length, take, drop, subst, arith}
use Rattle.std.proofs.lemmas.Grind.{common_steps}
use Rattle.gu_outside.specs.Outside.{Added}
use Rattle.gu_outside.proofs.Moves.{Added-add}
use Rattle.gu_outside.proofs.write.put_all.Goals as goal

-- the slice from i on is the rest
take_rest : (bytes : List ℕ) (i : ℕ) → take (length bytes - i) (drop i bytes) ≡ drop i bytes
take_rest bytes i = grind (arith, common_steps)

Added-rest : (mid after : Option (List ℕ)) (bytes : List ℕ) (i n : ℕ) → Added mid after (take (length bytes - i) (drop i bytes)) n → Added mid after (drop i bytes) n
Added-rest mid after bytes i n h = subst (λ (rest : List ℕ). Added mid after rest n) (take_rest bytes i) h

pub loop-at-preserved : goal.loop-at-preserved
loop-at-preserved g c =
    let bytes : List ℕ = c.args.bytes.now
    in let at : ℕ = c.loop-at.at
    in let n : ℕ = c.in_ok-at.field-0
    in let mid : Option (List ℕ) = g.K.Sink.held c.loop-at.output
    in let after : Option (List ℕ) = g.K.Sink.held c.put.new.self
    in record {
      within = grind (arith, common_steps);
      added = Added-add (g.K.Sink.held c.args.output.now) mid after bytes at n c.loop-at.invariant.added (Added-rest mid after bytes at n c.in_ok-at.ensures.adds);
      never_falls = search rules;
      untouched = grind (arith, common_steps);
    }
