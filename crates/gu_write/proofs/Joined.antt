-- What pieces in order are: the entries of all functions.
use Rattle.std.proofs.Common.{ℕ, ◌+◌, ◌<◌, ◌≤◌, ◌≡◌, List, [], ◌∷◌, ◌++◌, length, drop, arith, refl, sym, ap, subst, ◌∙◌, length-append, append_assoc, Ok, Err, Vec}
use Rattle.std.specs.List.{slice_range}
use Rattle.std.specs.declared.alloc.Global.{Global}
use Rattle.std.proofs.lemmas.List.Folds.{drop_split}
use Rattle.std.proofs.lemmas.List.Elements.{All-head, All-tail}
use Rattle.gu_parallel.specs.Parts.{IsPartOf}
use Rattle.gu_parallel.specs.declared.parts.Part.{Part}
use Rattle.gu_syntax.specs.declared.module.Func.{Func}
use Rattle.gu_syntax.specs.Encoding.{encode_items, encode_func}
use Rattle.gu_write_parts.specs.declared.error.WriteErr.{WriteErr}
use Rattle.gu_write_parts.specs.declared.error.WriteErr.TheVariants.{TooLong}
use Rattle.gu_write_parts.specs.Limit.{BlamesEnd}
use Rattle.gu_write.specs.Pieces.{Piece, IsPiece, IsPieceOf, ArePieces}

items-append : {X : Type 0} (encode : X → List ℕ) (xs ys : List X) → encode_items encode (xs ++ ys) ≡ encode_items encode xs ++ encode_items encode ys
items-append encode [] ys = refl
items-append encode (x ∷ xs) ys = ap (λ bs. encode x ++ bs) (items-append encode xs ys) ∙ sym (append_assoc (encode x) (encode_items encode xs) (encode_items encode ys))

-- the entries of the functions
abbrev pub entries : List Func → List ℕ
entries funcs = encode_items encode_func funcs

-- what is known of a part
abbrev IsPlaced : List Func → Part Piece → Type 0
IsPlaced funcs = IsPartOf (λ start end. start ≤ end) (IsPieceOf funcs) (length funcs)

-- there are pieces from a place on, and what is written and the entries of the functions from there on are all that is to be written
pub record Pending (funcs : List Func) (old out : List ℕ) (place : ℕ) (left : List (Part Piece)) : Type 0 where
  pub pieces : ArePieces funcs place left
  pub whole : out ++ entries (drop place funcs) ≡ old ++ entries funcs

module _ (funcs : List Func) (old out : List ℕ) (place : ℕ) (part : Part Piece) (all left : List (Part Piece)) (so : Pending funcs old out place all) (first : all ≡ part ∷ left) where
  follow : ArePieces funcs place (part ∷ left)
  follow = subst (ArePieces funcs place) first so.pieces

  here : IsPlaced funcs part
  here = All-head (IsPlaced funcs) part left follow.each

  -- the functions of the part before the others
  split : out ++ (entries (slice_range funcs part.start part.end) ++ entries (drop part.end funcs)) ≡ old ++ entries funcs
  split = ap (λ xs. out ++ xs) (sym (items-append encode_func (slice_range funcs part.start part.end) (drop part.end funcs)) ∙ ap entries (sym (drop_split funcs part.start part.end here.end)) ∙ ap (λ n. entries (drop n funcs)) follow.chained.0) ∙ so.whole

  long : 268435456 < length out + length (entries (slice_range funcs part.start part.end)) → 268435456 < length old + length (entries funcs)
  long past =
      let one = entries (slice_range funcs part.start part.end) in
      let others = entries (drop part.end funcs) in
      omega (arith, past, ap length split, length-append out (one ++ others), length-append one others, length-append old (entries funcs))

  -- a piece is appended
  pub pending_on : (bytes : Vec ℕ Global) (new : List ℕ) → part.made ≡ Ok bytes → new ≡ out ++ bytes.items → Pending funcs old new part.end left
  pending_on bytes new made put =
      let one = entries (slice_range funcs part.start part.end) in
      let is : bytes.items ≡ one = subst (IsPiece (slice_range funcs part.start part.end)) made here.made in
      record {
        pieces = record { chained = follow.chained.1; each = All-tail (IsPlaced funcs) part left follow.each };
        whole = ap (λ xs. xs ++ entries (drop part.end funcs)) (put ∙ ap (λ xs. out ++ xs) is) ∙ append_assoc out one (entries (drop part.end funcs)) ∙ split;
      }

  -- a piece that would end past the limit
  pub pending_long : (bytes : Vec ℕ Global) → part.made ≡ Ok bytes → 268435456 < length out + length bytes.items → 268435456 < length old + length (entries funcs)
  pending_long bytes made past =
      let is : bytes.items ≡ entries (slice_range funcs part.start part.end) = subst (IsPiece (slice_range funcs part.start part.end)) made here.made in
      long (subst (λ xs. 268435456 < length out + length xs) is past)

  -- a piece that was not made
  pub pending_fails : (error : WriteErr) → part.made ≡ Err error → BlamesEnd old (entries funcs) error
  pending_fails error failed is =
      let blames : error ≡ TooLong → 268435456 < length (entries (slice_range funcs part.start part.end)) = subst (IsPiece (slice_range funcs part.start part.end)) failed here.made in
      long (omega (arith, blames is))

-- behind the last piece the rest would end past the limit
pub pending_ends : (funcs rest : List Func) (old out : List ℕ) (place : ℕ) (left : List (Part Piece)) → Pending funcs old out place left → rest ≡ drop place funcs → 268435456 < length out + length (entries rest) → 268435456 < length old + length (entries funcs)
pending_ends funcs rest old out place left so are past =
    let whole : out ++ entries rest ≡ old ++ entries funcs = ap (λ fs. out ++ entries fs) are ∙ so.whole in
    omega (arith, past, ap length whole, length-append out (entries rest), length-append old (entries funcs))
