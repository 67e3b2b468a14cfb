-- Ways to make a grammar out of parts (core specification 3.0, 5.1 Conventions, 5.2 Values). A text is whole: nothing
-- stands before what it spells, and nothing behind.
use Rattle.std.specs.Prelude.{ℕ, ◌≡◌, List, [], ◌∷◌, ◌++◌, length, Option, Some, None, ℤ, pos}
use Rattle.std.specs.Str.{IsUtf8}
use Rattle.gu_bytes.specs.Numbers.{IsUnsigned, IsSigned}

-- two texts, one behind the other
pub record Parts (P Q : List ℕ → Type 0) (text : List ℕ) : Type 0 where
  pub front : List ℕ
  pub back : List ℕ
  pub whole : text ≡ front ++ back
  pub first : P front
  pub second : Q back

-- one fixed byte, and a text behind it
pub record Begins (byte : ℕ) (Q : List ℕ → Type 0) (text : List ℕ) : Type 0 where
  pub back : List ℕ
  pub whole : text ≡ byte ∷ back
  pub rest : Q back

-- the standard's u32 and s32 (5.2.2 Integers)
abbrev pub SpellsU32 : ℕ → List ℕ → Type 0
SpellsU32 n text = IsUnsigned 32 text n

abbrev pub SpellsS32 : ℤ → List ℕ → Type 0
SpellsS32 z text = IsSigned 32 text z

-- the standard's s64 (5.2.2 Integers)
abbrev pub SpellsS64 : ℤ → List ℕ → Type 0
SpellsS64 z text = IsSigned 64 text z

-- a type index where a type may stand: an s33 that is not negative (5.3 Types, heap types)
abbrev pub SpellsS33 : ℕ → List ℕ → Type 0
SpellsS33 n text = IsSigned 33 text (pos n)

-- items in order, each spelled by P
abbrev pub SpellsItems : {X : Type 0} → (X → List ℕ → Type 0) → List X → List ℕ → Type 0
SpellsItems P [] text = text ≡ []
SpellsItems P (x ∷ xs) text = Parts (P x) (SpellsItems P xs) text

-- a vector: how many items, and the items (5.1.3 Lists)
abbrev pub SpellsVector : {X : Type 0} → (X → List ℕ → Type 0) → List X → List ℕ → Type 0
SpellsVector P xs text = Parts (SpellsU32 (length xs)) (SpellsItems P xs) text

-- how many bytes follow, and exactly so many bytes that P takes (5.5.2 Sections, 5.5.13 Code Section)
pub record Sized (P : List ℕ → Type 0) (text : List ℕ) : Type 0 where
  pub size : List ℕ
  pub content : List ℕ
  pub whole : text ≡ size ++ content
  pub counts : SpellsU32 (length content) size
  pub inside : P content

-- a name: a vector of bytes in UTF-8 (5.2.4 Names)
pub record SpellsName (name text : List ℕ) : Type 0 where
  pub utf8 : IsUtf8 name
  pub counted : Parts (SpellsU32 (length name)) (λ bytes. bytes ≡ name) text

-- one value behind another
abbrev pub Both : {X Y : Type 0} → (X → List ℕ → Type 0) → (Y → List ℕ → Type 0) → X × Y → List ℕ → Type 0
Both P Q xy text = Parts (P xy.0) (Q xy.1) text

-- what is made of a value that the text spells
pub record Made {X Y : Type 0} (P : X → List ℕ → Type 0) (make : X → Y) (y : Y) (text : List ℕ) : Type 0 where
  pub value : X
  pub makes : make value ≡ y
  pub spelled : P value text

-- one fixed number in any of its spellings, and a text behind it
abbrev pub Numbered : ℕ → (List ℕ → Type 0) → List ℕ → Type 0
Numbered n Q text = Parts (SpellsU32 n) Q text

-- a number that is there
abbrev pub SpellsSome : Option ℕ → List ℕ → Type 0
SpellsSome None text = ⊥
SpellsSome (Some n) text = SpellsU32 n text
