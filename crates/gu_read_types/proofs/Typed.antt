-- What the reader of types answers.
use Rattle.std.proofs.Common.{ℕ, suc, ◌+◌, ◌-◌, ◌≤◌, ◌<◌, List, [], ◌∷◌, ◌++◌, ◌≡◌, refl, ap, ◌∙◌, sym, subst, length, take, arith, length-append, Result, Ok, Err}
use Rattle.std.specs.Prelude.{IfOk, OnErr}
use Rattle.std.specs.Borrow.{Bor}
use Rattle.std.proofs.Math.Seq.{take-append_seam}
use Rattle.gu_bytes.specs.Place.{Place}
use Rattle.gu_bytes.specs.Reads.{Passes}
use Rattle.gu_bytes.specs.declared.cursor.Bad.{Bad}
use Rattle.gu_types.specs.declared.types.RecGroup.{RecGroup}
use Rattle.gu_syntax.proofs.Takes.{Takes}
use Rattle.gu_syntax.specs.Types.{SpellsGroup}
use Rattle.gu_syntax.specs.Reading.{Item, Read, got, refused, group_at, vector_at}
use Rattle.gu_syntax.proofs.Decodes.{Decodes, vector_decodes, refused-got}
use Rattle.gu_syntax.proofs.Types.{group_decodes}
use Rattle.gu_read_parts.specs.declared.answer.ReadErr.{ReadErr}
use Rattle.gu_read_parts.specs.declared.answer.ReadErr.TheVariants as E
use Rattle.gu_read_parts.specs.declared.stop.Stop.{Stop}
use Rattle.gu_read_parts.specs.declared.stop.Stop.TheVariants as S
use Rattle.gu_read_parts.specs.Gives.{Fails, item_of}
use Rattle.gu_read_parts.specs.Due.{RefusesAhead, AnswersAhead, Answers, AnswersItem, later}
use Rattle.gu_read_parts.proofs.Answering.{refuses_ahead}
use Rattle.gu_read_types.specs.ReadTypes.{SpellsTypes, PassesTypes, HoldsNoTypes, RefusesTypes}
use Rattle.gu_read_types.proofs.Blockless.{group_blockless, vector_blockless}

types_decode : (bound : ℕ) → Decodes bound SpellsTypes (vector_at group_at)
types_decode bound = vector_decodes bound SpellsGroup group_at (group_decodes bound)

-- so many bytes are passed where there are so many
passed_all : (old new : Place) (r : Result (Bor (List ℕ)) Bad) (n : ℕ) → IfOk r (λ front. Passes front.now old new) → IfOk r (λ front. length front.now ≡ n) → OnErr r (length old.rest < n) → n ≤ length old.rest → (front : List ℕ) × Passes front old new × (length front ≡ n)
passed_all old new (Ok front) n passes count none h = (front.now, passes, count)
passed_all old new (Err bad) n passes count none h = absurd (omega arith)

-- two fronts of one length are one front
same_front : (f x g y : List ℕ) → f ++ x ≡ g ++ y → length f ≡ length g → f ≡ g
same_front f x g y e l = sym (take-append_seam f x) ∙ ap (take (length f)) e ∙ ap (λ n. take n (g ++ y)) l ∙ take-append_seam g y

pub types_passed : (old new : Place) (text : List ℕ) (groups : List RecGroup) (behind : List ℕ) (r : Result (Bor (List ℕ)) Bad) → text ≡ old.rest → vector_at group_at text ≡ got groups behind → IfOk r (λ front. Passes front.now old new) → IfOk r (λ front. length front.now ≡ length text - length behind) → OnErr r (length old.rest < length text - length behind) → PassesTypes groups old new
types_passed old new text groups behind r is read passes count none =
    let took : Takes (SpellsTypes groups) text behind = (types_decode 0).taken text behind groups read in
    let same_length : length text ≡ length old.rest = ap length is in
    let p : (front : List ℕ) × Passes front old new × (length front ≡ length text - length behind) = passed_all old new r (length text - length behind) passes count none (omega arith) in
    let sum : length text ≡ length took.front + length behind = ap length took.whole ∙ length-append took.front behind in
    let long : length took.front ≡ length p.0 = omega (arith, p.2) in
    let same : took.front ≡ p.0 = same_front took.front behind p.0 new.rest (sym took.whole ∙ is ∙ p.1.whole) long in
    record { front = took.front; spells = took.spells; passes = subst (λ front. Passes front old new) (sym same) p.1 }

-- where they are refused no types stand there
pub holds_none : (text : List ℕ) (item : Item) (left : ℕ) → vector_at group_at text ≡ refused item left → HoldsNoTypes text
holds_none text item left h front rest groups whole spells = refused-got item left groups rest (sym h ∙ ap (vector_at group_at) whole ∙ (types_decode (suc (length (front ++ rest)))).again groups front rest spells (omega arith))

item_refused : (old : Place) (item : Item) (left : ℕ) (ahead : ReadErr) → vector_at group_at old.rest ≡ refused item left → AnswersItem old.rest item left ahead → RefusesAhead (vector_at group_at) old (later old.at ahead) → RefusesTypes old (later old.at ahead)
item_refused old item left (E.Malformed place) h answers refuses = (holds_none old.rest item left h, refuses)
item_refused old item left (E.OutOfProfile place code) h answers refuses = (holds_none old.rest item left h, refuses)
item_refused old item left (E.Limit which place) h answers refuses = (vector_blockless group_at group_blockless).never old.rest (record { item = item; left = left }) h answers.2
item_refused old item left E.NoMemory h answers refuses = tt

stop_refused : (old : Place) (stop : Stop) (ahead : ReadErr) → Fails stop (vector_at group_at old.rest) → Answers old.rest stop ahead → RefusesAhead (vector_at group_at) old (later old.at ahead) → RefusesTypes old (later old.at ahead)
stop_refused old S.NoMemory ahead fails answers refuses = rw answers tt
stop_refused old (S.Refused asked left) ahead fails answers refuses = item_refused old (item_of asked) left ahead fails answers refuses

pub types_refused : (old : Place) (text : List ℕ) (stop : Stop) (err : ReadErr) → text ≡ old.rest → Fails stop (vector_at group_at text) → AnswersAhead old stop err → RefusesTypes old err
types_refused old text stop err is there answers =
    let fails : Fails stop (vector_at group_at old.rest) = subst (λ t. Fails stop (vector_at group_at t)) is there in
    let refuses = refuses_ahead (vector_at group_at) old stop err fails answers in
    subst (RefusesTypes old) (sym answers.1) (stop_refused old stop answers.0 fails answers.2 (subst (RefusesAhead (vector_at group_at) old) answers.1 refuses))
