use Rattle.std.proofs.Common.{◌≡◌, sym, ◌∙◌, ap, subst, length, Some}
use Rattle.gu_types.specs.Depth.{types_in, types_of}
use Rattle.gu_syntax.specs.declared.module.Module.{Module}
use Rattle.gu_read.specs.Limits.{first_exceeded, exceeded}
use Rattle.gu_read.specs.Rows.{local_rows}
use Rattle.gu_read.specs.Seen.{Sees}
use Rattle.gu_read.proofs.Depths.{depths_length}
use Rattle.gu_read.proofs.Rowing.{counts_found, counts_none, types_found, locals_found, last_rows}
use Rattle.gu_read.proofs.limits.first_exceeded.Goals as goal

pub returns-in-Some : goal.returns-in-Some
returns-in-Some c =
    let m = c.get-module.result.now in
    let sees : Sees c.in_ok-seen.seen (types_of m.types) = subst (λ gs. Sees c.in_ok-seen.seen (types_in gs)) c.as_slice.ensures c.in_ok-seen.ensures in
    let long = ap length c.as_slice-2.ensures.value ∙ depths_length (types_of m.types) _ sees.depths in
    subst (λ w. Some c.in-Some.found ≡ exceeded w) c.get-module.ensures (counts_found m _ c.in-Some.found long (sym c.count_limit.ensures ∙ c.in-Some.is))

pub returns-in-Some-type_limit : goal.returns-in-Some-type_limit
returns-in-Some-type_limit c =
    let m = c.get-module.result.now in
    let sees : Sees c.in_ok-seen.seen (types_of m.types) = subst (λ gs. Sees c.in_ok-seen.seen (types_in gs)) c.as_slice.ensures c.in_ok-seen.ensures in
    let long = ap length c.as_slice-2.ensures.value ∙ depths_length (types_of m.types) _ sees.depths in
    subst (λ w. Some c.in-Some-type_limit.found ≡ exceeded w) c.get-module.ensures (types_found m c.in-Some-type_limit.found (counts_none m _ long (sym c.count_limit.ensures ∙ c.in_default.is)) (sym (c.type_limit.ensures (types_of m.types) sees) ∙ c.in-Some-type_limit.is))

pub returns-in-Some-2 : goal.returns-in-Some-2
returns-in-Some-2 c =
    let m = c.get-module.result.now in
    let sees : Sees c.in_ok-seen.seen (types_of m.types) = subst (λ gs. Sees c.in_ok-seen.seen (types_in gs)) c.as_slice.ensures c.in_ok-seen.ensures in
    let long = ap length c.as_slice-2.ensures.value ∙ depths_length (types_of m.types) _ sees.depths in
    let counts = counts_none m _ long (sym c.count_limit.ensures ∙ c.in_default.is) in
    let types = sym (c.type_limit.ensures (types_of m.types) sees) ∙ c.in_default-type_limit.is in
    let locals = sym (c.in_ok-found.ensures ∙ ap (λ (w : Module). first_exceeded (local_rows w.funcs)) (sym c.get-module.ensures)) ∙ c.in-Some-2.is in
    subst (λ w. Some c.in-Some-2.found ≡ exceeded w) c.get-module.ensures (locals_found m c.in-Some-2.found counts types locals)

pub returns : goal.returns
returns c =
    let m = c.get-module.result.now in
    let sees : Sees c.in_ok-seen.seen (types_of m.types) = subst (λ gs. Sees c.in_ok-seen.seen (types_in gs)) c.as_slice.ensures c.in_ok-seen.ensures in
    let long = ap length c.as_slice-2.ensures.value ∙ depths_length (types_of m.types) _ sees.depths in
    let counts = counts_none m _ long (sym c.count_limit.ensures ∙ c.in_default.is) in
    let types = sym (c.type_limit.ensures (types_of m.types) sees) ∙ c.in_default-type_limit.is in
    let locals = sym (c.in_ok-found.ensures ∙ ap (λ (w : Module). first_exceeded (local_rows w.funcs)) (sym c.get-module.ensures)) ∙ c.in_default-2.is in
    c.depth_limit.ensures (types_of m.types) sees ∙ last_rows m counts types locals ∙ ap exceeded c.get-module.ensures
