use Rattle.std.proofs.Common.{◌≡◌, subst, refl, sym}
use Rattle.std.specs.Prelude.{All, Contains}
use Rattle.gu_contents.specs.declared.content.Content.{Content}
use Rattle.gu_contents.specs.Meets.{filter, minus, test, is_null, equal}
use Rattle.gu_contents.specs.Numbers.{pack}
use Rattle.gu_links.specs.declared.link.Link.{Link}
use Rattle.gu_links.specs.Gives.{Contents, gives, non_null, internalised, externalised}
use Rattle.gu_links.specs.Known.{Has, cells_of}
use Rattle.gu_links.specs.Kept.{fixed_reads}
use Rattle.gu_links.proofs.Applying.{single, unary, binary}
use Rattle.gu_links.proofs.asked.flow.Goals as goal

pub filter-requires-clause-content : goal.filter-requires-clause-content
filter-requires-clause-content c = c.content_at-in-Filter.ensures.belongs c.args.s.now.facts.now c.requires.belong

pub minus-requires-clause-content : goal.minus-requires-clause-content
minus-requires-clause-content c = c.content_at-in-Minus.ensures.belongs c.args.s.now.facts.now c.requires.belong

pub test-requires-clause-content : goal.test-requires-clause-content
test-requires-clause-content c = c.content_at-in-Test.ensures.belongs c.args.s.now.facts.now c.requires.belong

pub equal-requires-clause-first : goal.equal-requires-clause-first
equal-requires-clause-first c = c.content_at-first.ensures.belongs c.args.s.now.facts.now c.requires.belong

pub equal-requires-clause-second : goal.equal-requires-clause-second
equal-requires-clause-second c = c.content_at-in-Equal.ensures.belongs c.args.s.now.facts.now c.requires.belong

pub returns-in-Copy : goal.returns-in-Copy
unfolding gives
returns-in-Copy c =
    subst (λ (l : Link). (x : Contents) → Has c.args.known.now x → single c.in-Copy.to c.content_at.result ≡ gives c.args.s.now.facts.now c.args.s.now.links l x) (sym c.in-Copy.is)
    (unary c.args.known.now (λ (a : Content). a) c.in-Copy.from c.in-Copy.to c.content_at.result c.content_at.result (subst (λ (l : Link). All (Contains (cells_of c.args.known.now)) (fixed_reads l)) c.in-Copy.is c.requires.fixed) c.content_at.ensures.value refl)

pub returns-in-NonNull : goal.returns-in-NonNull
unfolding gives
returns-in-NonNull c =
    subst (λ (l : Link). (x : Contents) → Has c.args.known.now x → single c.in-NonNull.to c.non_null.result ≡ gives c.args.s.now.facts.now c.args.s.now.links l x) (sym c.in-NonNull.is)
    (unary c.args.known.now non_null c.in-NonNull.from c.in-NonNull.to c.content_at-in-NonNull.result c.non_null.result (subst (λ (l : Link). All (Contains (cells_of c.args.known.now)) (fixed_reads l)) c.in-NonNull.is c.requires.fixed) c.content_at-in-NonNull.ensures.value c.non_null.ensures)

pub returns-in-Filter : goal.returns-in-Filter
unfolding gives
returns-in-Filter c =
    subst (λ (l : Link). (x : Contents) → Has c.args.known.now x → single c.in-Filter.to c.filter.result ≡ gives c.args.s.now.facts.now c.args.s.now.links l x) (sym c.in-Filter.is)
    (unary c.args.known.now (λ (a : Content). filter c.args.s.now.facts.now a c.in-Filter.by) c.in-Filter.from c.in-Filter.to c.content_at-in-Filter.result c.filter.result (subst (λ (l : Link). All (Contains (cells_of c.args.known.now)) (fixed_reads l)) c.in-Filter.is c.requires.fixed) c.content_at-in-Filter.ensures.value c.filter.ensures)

pub returns-in-Minus : goal.returns-in-Minus
unfolding gives
returns-in-Minus c =
    subst (λ (l : Link). (x : Contents) → Has c.args.known.now x → single c.in-Minus.to c.minus.result ≡ gives c.args.s.now.facts.now c.args.s.now.links l x) (sym c.in-Minus.is)
    (unary c.args.known.now (λ (a : Content). minus c.args.s.now.facts.now a c.in-Minus.by) c.in-Minus.from c.in-Minus.to c.content_at-in-Minus.result c.minus.result (subst (λ (l : Link). All (Contains (cells_of c.args.known.now)) (fixed_reads l)) c.in-Minus.is c.requires.fixed) c.content_at-in-Minus.ensures.value c.minus.ensures)

pub returns-in-Test : goal.returns-in-Test
unfolding gives
returns-in-Test c =
    subst (λ (l : Link). (x : Contents) → Has c.args.known.now x → single c.in-Test.to c.test.result ≡ gives c.args.s.now.facts.now c.args.s.now.links l x) (sym c.in-Test.is)
    (unary c.args.known.now (λ (a : Content). test c.args.s.now.facts.now a c.in-Test.by) c.in-Test.from c.in-Test.to c.content_at-in-Test.result c.test.result (subst (λ (l : Link). All (Contains (cells_of c.args.known.now)) (fixed_reads l)) c.in-Test.is c.requires.fixed) c.content_at-in-Test.ensures.value c.test.ensures)

pub returns-in-IsNull : goal.returns-in-IsNull
unfolding gives
returns-in-IsNull c =
    subst (λ (l : Link). (x : Contents) → Has c.args.known.now x → single c.in-IsNull.to c.is_null.result ≡ gives c.args.s.now.facts.now c.args.s.now.links l x) (sym c.in-IsNull.is)
    (unary c.args.known.now is_null c.in-IsNull.from c.in-IsNull.to c.content_at-in-IsNull.result c.is_null.result (subst (λ (l : Link). All (Contains (cells_of c.args.known.now)) (fixed_reads l)) c.in-IsNull.is c.requires.fixed) c.content_at-in-IsNull.ensures.value c.is_null.ensures)

pub returns-in-Pack : goal.returns-in-Pack
unfolding gives
returns-in-Pack c =
    subst (λ (l : Link). (x : Contents) → Has c.args.known.now x → single c.in-Pack.to c.pack.result ≡ gives c.args.s.now.facts.now c.args.s.now.links l x) (sym c.in-Pack.is)
    (unary c.args.known.now (pack c.in-Pack.storage) c.in-Pack.from c.in-Pack.to c.content_at-in-Pack.result c.pack.result (subst (λ (l : Link). All (Contains (cells_of c.args.known.now)) (fixed_reads l)) c.in-Pack.is c.requires.fixed) c.content_at-in-Pack.ensures.value c.pack.ensures)

pub returns-in-Internalise : goal.returns-in-Internalise
unfolding gives
returns-in-Internalise c =
    subst (λ (l : Link). (x : Contents) → Has c.args.known.now x → single c.in-Internalise.to c.internalised.result ≡ gives c.args.s.now.facts.now c.args.s.now.links l x) (sym c.in-Internalise.is)
    (unary c.args.known.now (internalised c.args.s.now.facts.now) c.in-Internalise.from c.in-Internalise.to c.content_at-in-Internalise.result c.internalised.result (subst (λ (l : Link). All (Contains (cells_of c.args.known.now)) (fixed_reads l)) c.in-Internalise.is c.requires.fixed) c.content_at-in-Internalise.ensures.value c.internalised.ensures)

pub returns-in-Externalise : goal.returns-in-Externalise
unfolding gives
returns-in-Externalise c =
    subst (λ (l : Link). (x : Contents) → Has c.args.known.now x → single c.in-Externalise.to c.externalised.result ≡ gives c.args.s.now.facts.now c.args.s.now.links l x) (sym c.in-Externalise.is)
    (unary c.args.known.now externalised c.in-Externalise.from c.in-Externalise.to c.content_at-in-Externalise.result c.externalised.result (subst (λ (l : Link). All (Contains (cells_of c.args.known.now)) (fixed_reads l)) c.in-Externalise.is c.requires.fixed) c.content_at-in-Externalise.ensures.value c.externalised.ensures)

pub returns-in-Equal : goal.returns-in-Equal
unfolding gives
returns-in-Equal c =
    subst (λ (l : Link). (x : Contents) → Has c.args.known.now x → single c.in-Equal.to c.equal.result ≡ gives c.args.s.now.facts.now c.args.s.now.links l x) (sym c.in-Equal.is)
    (binary c.args.known.now (equal c.args.s.now.facts.now) c.in-Equal.left c.in-Equal.right c.in-Equal.to c.content_at-first.result c.content_at-in-Equal.result c.equal.result (subst (λ (l : Link). All (Contains (cells_of c.args.known.now)) (fixed_reads l)) c.in-Equal.is c.requires.fixed) c.content_at-first.ensures.value c.content_at-in-Equal.ensures.value c.equal.ensures)
