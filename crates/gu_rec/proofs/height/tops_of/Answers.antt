use Rattle.std.proofs.Common.{◌+◌, length, ap, arith}
use Rattle.gu_types.specs.declared.types.Abs.TheVariants as A
use Rattle.gu_types.specs.declared.types.HeapType.TheVariants as H
use Rattle.gu_rec.proofs.Heights.{height_is, eq_to, any_to, i31_to, extern_to, exn_to}
use Rattle.gu_rec.proofs.height.tops_of.Goals as goal

pub returns : goal.returns
returns c list are =
    let n = length c.args.entries.now in
    let l = are.long in
    let structs = c.farthest-structs.ensures.to list are in
    let arrays = c.farthest-arrays.ensures.to list are in
    let eq = eq_to list n _ _ (c.max-eq.result + 1) structs arrays (omega arith) (ap (λ m. m + 1) c.max-eq.ensures) in
    record {
      any_is = height_is list (H.Abs A.Any) n _ (any_to list n _ eq (omega arith)) (omega arith);
      eq_is = height_is list (H.Abs A.Eq) n _ eq (omega arith);
      i31_is = height_is list (H.Abs A.I31) n _ (i31_to list n (omega arith)) (omega arith);
      structs_is = height_is list (H.Abs A.AnyStruct) n _ structs (omega arith);
      arrays_is = height_is list (H.Abs A.AnyArray) n _ arrays (omega arith);
      funcs_is = height_is list (H.Abs A.AnyFunc) n _ (c.farthest-funcs.ensures.to list are) (omega arith);
      externs_is = height_is list (H.Abs A.Extern) n _ (extern_to list n (omega arith)) (omega arith);
      exns_is = height_is list (H.Abs A.Exn) n _ (exn_to list n (omega arith)) (omega arith);
    }
