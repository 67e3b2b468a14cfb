-- What a stop is answered as, where reading a part of the grammar stops there.
use Rattle.std.proofs.Common.{◌≡◌, ◌∙◌, ap, refl, ℕ, List}
use Rattle.gu_bytes.specs.Place.{Place}
use Rattle.gu_syntax.specs.Reading.{Item, Read, refused}
use Rattle.gu_read_parts.specs.declared.answer.ReadErr.{ReadErr}
use Rattle.gu_read_parts.specs.declared.answer.ReadErr.TheVariants as E
use Rattle.gu_read_parts.specs.declared.stop.Stop.{Stop}
use Rattle.gu_read_parts.specs.declared.stop.Stop.TheVariants as S
use Rattle.gu_read_parts.specs.Gives.{Fails, item_of}
use Rattle.gu_read_parts.specs.Due.{Answers, AnswersItem, AnswersAhead, Refuses, RefusesAhead, later}

item_refuses : {X : Type 0} (part : List ℕ → Read X) (text : List ℕ) (item : Item) (left : ℕ) (err : ReadErr) → part text ≡ refused item left → AnswersItem text item left err → Refuses part text err
item_refuses part text item left (E.Malformed place) stopped h = record { item = item; due = record { left = left; here = h.0; stopped = stopped }; shallow = h.1; unnamed = h.2 }
item_refuses part text item left (E.OutOfProfile place code) stopped h = record { item = item; due = record { left = left; here = h.0; stopped = stopped }; named = h.1 }
item_refuses part text item left (E.Limit which place) stopped h = (h.0, record { left = left; here = h.1; stopped = stopped ∙ ap (λ i. refused i left) h.2 })
item_refuses part text item left E.NoMemory stopped h = absurd h

pub refuses : {X : Type 0} (part : List ℕ → Read X) (text : List ℕ) (stop : Stop) (err : ReadErr) → Fails stop (part text) → Answers text stop err → Refuses part text err
refuses part text S.NoMemory err fails answers = rw answers tt
refuses part text (S.Refused asked left) err fails answers = item_refuses part text (item_of asked) left err fails answers

-- the same at a cursor
later_refuses : {X : Type 0} (part : List ℕ → Read X) (cursor : Place) (ahead : ReadErr) → Refuses part cursor.rest ahead → RefusesAhead part cursor (later cursor.at ahead)
later_refuses part cursor (E.Malformed place) h = (place, refl, h)
later_refuses part cursor (E.OutOfProfile place code) h = (place, refl, h)
later_refuses part cursor (E.Limit which place) h = (h.0, (place, refl, h.1))
later_refuses part cursor E.NoMemory h = tt

pub refuses_ahead : {X : Type 0} (part : List ℕ → Read X) (cursor : Place) (stop : Stop) (err : ReadErr) → Fails stop (part cursor.rest) → AnswersAhead cursor stop err → RefusesAhead part cursor err
refuses_ahead part cursor stop err fails answers = rw answers.1 (later_refuses part cursor answers.0 (refuses part cursor.rest stop answers.0 fails answers.2))
