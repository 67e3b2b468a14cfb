use Rattle.std.proofs.Common.{◌≡◌, ℕ, suc, ◌<◌, List, [], ◌∷◌, ◌++◌, length, take, drop, get_or, sym, ap, ◌∙◌, subst, Option, Result, Ok, Err, OnErr, drop-cons}
use Rattle.std.proofs.lemmas.List.{take-append-drop}
use Rattle.std.proofs.lemmas.List.Concat.{flat_map-cons, flat_map-append}
use Rattle.std.specs.List.{flat_map}
use Rattle.gu_outside.specs.Outside.{Appended, PrefixAdded}
use Rattle.gu_outside.proofs.Moves.{PrefixAdded-append, PrefixAdded-more}
use Rattle.gu_report.proofs.lines.put_each.Goals as goal

-- the pieces before one, it, and those behind it
split_at : {X : Type 0} (f : X → List ℕ) (pieces : List X) (i : ℕ) (d : X) → i < length pieces → flat_map f (take i pieces) ++ (f (get_or pieces i d) ++ flat_map f (drop (suc i) pieces)) ≡ flat_map f pieces
split_at f pieces i d lt =
    ap (λ (ns : List ℕ). flat_map f (take i pieces) ++ ns) (sym (flat_map-cons f (get_or pieces i d) (drop (suc i) pieces)))
    ∙ sym (flat_map-append f (take i pieces) (get_or pieces i d ∷ drop (suc i) pieces))
    ∙ ap (flat_map f) (ap (λ ps. take i pieces ++ ps) (sym (drop-cons pieces i d lt)) ∙ take-append-drop i pieces)

-- the pieces before one were put, and then a beginning of it
part_of_pieces : {X : Type 0} (f : X → List ℕ) (pieces : List X) (i : ℕ) (d : X) (before mid after : Option (List ℕ)) → i < length pieces → Appended before mid (flat_map f (take i pieces)) → PrefixAdded mid after (f (get_or pieces i d)) → PrefixAdded before after (flat_map f pieces)
part_of_pieces f pieces i d before mid after lt whole part =
    subst (PrefixAdded before after) (split_at f pieces i d lt)
    (PrefixAdded-append before mid after (flat_map f (take i pieces)) (f (get_or pieces i d) ++ flat_map f (drop (suc i) pieces)) whole
    (PrefixAdded-more mid after (f (get_or pieces i d)) (flat_map f (drop (suc i) pieces)) part))

on_err : {A E : Type 0} (P : Type 0) (r : Result A E) → P → OnErr r P
on_err P (Ok x) p = tt
on_err P (Err e) p = p

pub returns-in_err-put_all-clause-part : goal.returns-in_err-put_all-clause-part
returns-in_err-put_all-clause-part g c =
    on_err _ c.from_residual.result
    (part_of_pieces (λ piece. piece.now) c.args.pieces.now c.loop-piece.piece-index (record { ref_ptr = (0, 0); now = [] }) (g.L.Sink.held c.args.report.now) (g.L.Sink.held c.loop-piece.report) (g.L.Sink.held c.put_all.new.output) c.loop-piece-test.true c.loop-piece.invariant.added
    c.in_err-put_all.ensures.part)
