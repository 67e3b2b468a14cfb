use Rattle.std.proofs.Common.{ℕ, ◌≡◌, ◌<◌, ◌≤◌, ◌∷◌, [], ◌∙◌, false, length, set, ap, sym, arith}
use Rattle.std.specs.Prelude.{Contains, Some, slice_get}
use Rattle.std.proofs.lemmas.Bool.{both_ways}
use Rattle.std.proofs.lemmas.Result.{IfOk-weaker}
use Rattle.gu_contents.specs.declared.content.Content.{Content}
use Rattle.gu_contents.specs.declared.content.Content.TheVariants.{Empty}
use Rattle.gu_contents.specs.Order.{AtMost, at_most}
use Rattle.gu_contents.specs.Join.{join}
use Rattle.gu_links.specs.declared.link.Link.{Link}
use Rattle.gu_links.specs.Solutions.{at, IsReader}
use Rattle.gu_solve.specs.Steps.{IsOnTheWay, Rises, weight}
use Rattle.gu_solve.proofs.Rising.{any_default, set_way, set_rises, set_weighs, stays}
use Rattle.gu_links.proofs.Regained.{is_system}
use Rattle.gu_solve.proofs.step.raise.Goals as goal

pub returns-then-le-clause-rises : goal.returns-then-le-clause-rises
returns-then-le-clause-rises c =
    let s = c.args.s.now in
    let f = s.facts.now in
    let xs = c.args.contents.now.items in
    let to = c.args.cell in
    let a = c.args.content in
    let short : to < length xs = (let lt = c.requires.due.cell in let long = c.requires.contents.long in omega arith) in
    let b_is : c.index-before.result.now ≡ at xs to = c.index-before.ensures ∙ any_default xs to c.index-before.result.now Empty short in
    stays f s.longs s.cells s.links xs c.requires.contents (is_system c.args.s.now) to a c.requires.due c.args.left.now.waiting
    (record { holds = ap (at_most f a) (sym b_is) ∙ (sym c.le.ensures.value ∙ c.if-le.true) })

pub returns-clause-contents : goal.returns-clause-contents
returns-clause-contents c =
    let s = c.args.s.now in
    let f = s.facts.now in
    let xs = c.args.contents.now.items in
    let to = c.args.cell in
    let a = c.args.content in
    let short : to < length xs = (let lt = c.requires.due.cell in let long = c.requires.contents.long in omega arith) in
    let b_is : c.index-before.result.now ≡ at xs to = c.index-before.ensures ∙ any_default xs to c.index-before.result.now Empty short in
    let v_is : c.join.result ≡ join f (at xs to) a = c.join.ensures ∙ ap (λ (b : Content). join f b a) b_is in
    IfOk-weaker c.add_readers.result (λ _. (k : ℕ) (link : Link) → slice_get s.links k ≡ Some link → IsReader f s.links to link → Contains c.add_readers.new.left.waiting k) (λ _. IsOnTheWay f s.longs s.cells s.links (set xs to c.join.result))
    (λ u h. set_way f s.longs s.cells s.links xs c.requires.contents (is_system c.args.s.now) to a c.requires.due c.join.result v_is)
    c.add_readers.ensures.readers

pub returns-clause-rises : goal.returns-clause-rises
returns-clause-rises c =
    let s = c.args.s.now in
    let f = s.facts.now in
    let xs = c.args.contents.now.items in
    let to = c.args.cell in
    let a = c.args.content in
    let new = c.add_readers.new.left.waiting in
    let short : to < length xs = (let lt = c.requires.due.cell in let long = c.requires.contents.long in omega arith) in
    let b_is : c.index-before.result.now ≡ at xs to = c.index-before.ensures ∙ any_default xs to c.index-before.result.now Empty short in
    let v_is : c.join.result ≡ join f (at xs to) a = c.join.ensures ∙ ap (λ (b : Content). join f b a) b_is in
    IfOk-weaker c.add_readers.result (λ _. (k : ℕ) (link : Link) → slice_get s.links k ≡ Some link → IsReader f s.links to link → Contains new k)
    (λ _. Rises f s.links new ((to, a) ∷ []) (at xs) (at (set xs to c.join.result)))
    (λ u h. set_rises f s.longs s.cells s.links xs c.requires.contents (is_system c.args.s.now) to a c.requires.due c.join.result new v_is h)
    c.add_readers.ensures.readers

pub returns-clause-weight : goal.returns-clause-weight
returns-clause-weight c =
    let s = c.args.s.now in
    let f = s.facts.now in
    let xs = c.args.contents.now.items in
    let to = c.args.cell in
    let a = c.args.content in
    let new = c.add_readers.new.left.waiting in
    let short : to < length xs = (let lt = c.requires.due.cell in let long = c.requires.contents.long in omega arith) in
    let b_is : c.index-before.result.now ≡ at xs to = c.index-before.ensures ∙ any_default xs to c.index-before.result.now Empty short in
    let v_is : c.join.result ≡ join f (at xs to) a = c.join.ensures ∙ ap (λ (b : Content). join f b a) b_is in
    let off : at_most f a (at xs to) ≡ false = ap (at_most f a) (sym b_is) ∙ (sym c.le.ensures.value ∙ c.if-le.false) in
    IfOk-weaker c.add_readers.result (λ _. (k : ℕ) (link : Link) → slice_get s.links k ≡ Some link → IsReader f s.links to link → Contains new k)
    (λ _. weight s.cells (length s.links) (at (set xs to c.join.result)) (length new) ≤ weight s.cells (length s.links) (at xs) (length c.args.left.now.waiting))
    (λ u h. set_weighs f s.longs s.cells s.links xs c.requires.contents (is_system c.args.s.now) to a c.requires.due c.join.result (length c.args.left.now.waiting) (length new) v_is
    (λ (m : AtMost f a (at xs to)). both_ways (at_most f a (at xs to)) off m.holds) c.add_readers.ensures.left.few)
    c.add_readers.ensures.readers
