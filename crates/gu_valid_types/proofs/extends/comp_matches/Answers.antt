use Rattle.std.proofs.Common.{◌≡◌, true, length, sym, subst, List}
use Rattle.std.specs.List.{list_all}
use Rattle.gu_types.specs.declared.types.ValType.{ValType}
use Rattle.gu_types.specs.declared.types.FieldType.{FieldType}
use Rattle.gu_types.specs.Depth.{types_of}
use Rattle.gu_rec.specs.Names.{val_names, field_names}
use Rattle.gu_rec.specs.Validity.{all_below}
use Rattle.gu_valid_types.proofs.Supers.{func_params, func_results, struct_fields}
use Rattle.gu_valid_types.proofs.extends.comp_matches.Goals as goal

pub vals_match-requires-clause-first : goal.vals_match-requires-clause-first
vals_match-requires-clause-first c =
    subst (λ (xs : List ValType). list_all (λ ty. all_below (length (types_of c.args.types.now)) (val_names ty)) xs ≡ true) (sym c.as_slice.ensures)
    (func_params (length (types_of c.args.types.now)) c.args.b.now c.in-Func-b.above_params c.in-Func-b.above_results c.in-Func-b.is c.requires.second)

pub vals_match-requires-clause-second : goal.vals_match-requires-clause-second
vals_match-requires-clause-second c =
    subst (λ (xs : List ValType). list_all (λ ty. all_below (length (types_of c.args.types.now)) (val_names ty)) xs ≡ true) (sym c.as_slice-in-Func-b.ensures)
    (func_params (length (types_of c.args.types.now)) c.args.a.now c.in-Func.params c.in-Func.results c.in-Func.is c.requires.first)

pub vals_match-requires-then-vals_match-clause-first : goal.vals_match-requires-then-vals_match-clause-first
vals_match-requires-then-vals_match-clause-first c =
    subst (λ (xs : List ValType). list_all (λ ty. all_below (length (types_of c.args.types.now)) (val_names ty)) xs ≡ true) (sym c.as_slice-then-vals_match.ensures)
    (func_results (length (types_of c.args.types.now)) c.args.a.now c.in-Func.params c.in-Func.results c.in-Func.is c.requires.first)

pub vals_match-requires-then-vals_match-clause-second : goal.vals_match-requires-then-vals_match-clause-second
vals_match-requires-then-vals_match-clause-second c =
    subst (λ (xs : List ValType). list_all (λ ty. all_below (length (types_of c.args.types.now)) (val_names ty)) xs ≡ true) (sym c.as_slice-then-vals_match-2.ensures)
    (func_results (length (types_of c.args.types.now)) c.args.b.now c.in-Func-b.above_params c.in-Func-b.above_results c.in-Func-b.is c.requires.second)

pub fields_match-requires-clause-first : goal.fields_match-requires-clause-first
fields_match-requires-clause-first c =
    subst (λ (xs : List FieldType). list_all (λ field. all_below (length (types_of c.args.types.now)) (field_names field)) xs ≡ true) (sym c.as_slice-in-Struct-b.ensures)
    (struct_fields (length (types_of c.args.types.now)) c.args.a.now c.in-Struct.fields c.in-Struct.is c.requires.first)

pub fields_match-requires-clause-second : goal.fields_match-requires-clause-second
fields_match-requires-clause-second c =
    subst (λ (xs : List FieldType). list_all (λ field. all_below (length (types_of c.args.types.now)) (field_names field)) xs ≡ true) (sym c.as_slice-in-Struct-b-2.ensures)
    (struct_fields (length (types_of c.args.types.now)) c.args.b.now c.in-Struct-b.above c.in-Struct-b.is c.requires.second)
