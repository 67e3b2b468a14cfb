-- Parts of the grammar that open no block, and so are never refused for one that is opened too deep.
use Rattle.std.proofs.Common.{ℕ, zero, suc, List, [], ◌∷◌, ◌≡◌, refl, ap, ◌∙◌, sym, length, Bool, true, false, cond, Option, Some, None, nat_eq, inl, inr}
use Rattle.gu_bytes.specs.Reading.{unsigned_at, signed_at}
use Rattle.gu_types.specs.declared.types.Abs.{Abs}
use Rattle.gu_types.specs.declared.types.HeapType.TheVariants as H
use Rattle.gu_types.specs.declared.types.ValType.TheVariants as V
use Rattle.gu_types.specs.declared.types.Storage.TheVariants as S
use Rattle.gu_types.specs.declared.types.Comp.TheVariants as C
use Rattle.gu_syntax.specs.Instructions.{ref_to}
use Rattle.gu_syntax.specs.Reading.{Item, Number, Fixed, TypeStart, FlatOpcode, Fault, Read, got, stops, refused, ◌>>=◌, made_at, both_at, number, u32_as, u32_at, s33_head, not_negative, headed_at, none_at, items_at, vector_at, abs_with, heap_or, heap_head, heap_at, short_or, ref_head, ref_at, val_head, val_at, mutable_at, storage_head, storage_at, field_at, field_of, func_of, comp_head, comp_at, sub_of, declared_at, bare_of, sub_head, sub_at, group_of, one_of, group_head, group_at}
use Rattle.gu_syntax.proofs.Decodes.{fault_is, got-stops, bind_stops}

-- where it stops, no block is asked not to be opened
pub record Blockless {X : Type 0} (at : List ℕ → Read X) : Type 0 where
  pub never : (text : List ℕ) (fault : Fault) → at text ≡ stops fault → fault.item ≡ FlatOpcode → ⊥

refused_else : {X : Type 0} (item : Item) (left : ℕ) (fault : Fault) → (item ≡ FlatOpcode → ⊥) → ◌≡◌ {A = Read X} (refused item left) (stops fault) → fault.item ≡ FlatOpcode → ⊥
refused_else {X} item left fault isnt h flat = isnt (ap (λ (f : Fault). f.item) (fault_is {A = X} (record { item = item; left = left }) fault h) ∙ flat)

number_else : {X : Type 0} (item : Item) (left : ℕ) (o : Option (X × List ℕ)) (fault : Fault) → (item ≡ FlatOpcode → ⊥) → number item left o ≡ stops fault → fault.item ≡ FlatOpcode → ⊥
number_else {X} item left None fault isnt h flat = refused_else {X = X} item left fault isnt h flat
number_else item left (Some x) fault isnt h flat = got-stops x.0 x.1 fault h

number_isnt : Number ≡ FlatOpcode → ⊥
number_isnt e = cc

type_isnt : TypeStart ≡ FlatOpcode → ⊥
type_isnt e = cc

fixed_isnt : Fixed ≡ FlatOpcode → ⊥
fixed_isnt e = cc

none_blockless : {X : Type 0} (x : X) → Blockless (none_at x)
none_blockless x = record { never = λ text fault h flat. got-stops x text fault h }

u32_blockless : Blockless u32_at
u32_blockless = record { never = λ text fault h flat. number_else Number (length text) (unsigned_at 32 text) fault number_isnt h flat }

s33_blockless : (left byte : ℕ) → Blockless (s33_head left byte)
s33_blockless left byte = record { never = λ text fault h flat. number_else TypeStart left (not_negative (signed_at 33 (byte ∷ text))) fault type_isnt h flat }

bind_else : {X Y : Type 0} (r : Read X) (f : X → List ℕ → Read Y) (fault : Fault) → ((k : Fault) → r ≡ stops k → k.item ≡ FlatOpcode → ⊥) → ((x : X) (mid : List ℕ) → f x mid ≡ stops fault → fault.item ≡ FlatOpcode → ⊥) → (r >>= f) ≡ stops fault → fault.item ≡ FlatOpcode → ⊥
bind_else r f fault first second h flat = elim (bind_stops r f fault h) [
  | inl e ↦ first fault e flat
  | inr e ↦ second e.0 e.1 e.3 flat
]

made_blockless : {X Y : Type 0} (make : X → Y) (at : List ℕ → Read X) → Blockless at → Blockless (made_at make at)
made_blockless make at b = record { never = λ text fault h flat. bind_else (at text) (λ x rest. got (make x) rest) fault (b.never text) (λ x mid e flat'. got-stops (make x) mid fault e) h flat }

both_blockless : {X Y : Type 0} (first : List ℕ → Read X) (second : List ℕ → Read Y) → Blockless first → Blockless second → Blockless (both_at first second)
both_blockless first second b c = record { never = λ text fault h flat. bind_else (first text) (λ x rest. second rest >>= λ y behind. got (x, y) behind) fault (b.never text) (λ x mid e flat'. bind_else (second mid) (λ y behind. got (x, y) behind) fault (c.never mid) (λ y back e' flat''. got-stops (x, y) back fault e') e flat') h flat }

items_else : {X : Type 0} (at : List ℕ → Read X) → Blockless at → (n : ℕ) (text : List ℕ) (fault : Fault) → items_at at n text ≡ stops fault → fault.item ≡ FlatOpcode → ⊥
items_else at b zero text fault h flat = got-stops [] text fault h
items_else at b (suc n) text fault h flat = bind_else (at text) (λ x rest. items_at at n rest >>= λ xs behind. got (x ∷ xs) behind) fault (b.never text) (λ x mid e flat'. bind_else (items_at at n mid) (λ xs behind. got (x ∷ xs) behind) fault (items_else at b n mid) (λ xs back e' flat''. got-stops (x ∷ xs) back fault e') e flat') h flat

pub vector_blockless : {X : Type 0} (at : List ℕ → Read X) → Blockless at → Blockless (vector_at at)
vector_blockless at b = record { never = λ text fault h flat. bind_else (u32_at text) (λ n rest. items_at at n rest) fault (u32_blockless.never text) (λ n mid e flat'. items_else at b n mid fault e flat') h flat }

headed_else : {X : Type 0} (item : Item) (next : ℕ → ℕ → List ℕ → Read X) → (item ≡ FlatOpcode → ⊥) → ((left byte : ℕ) → Blockless (next left byte)) → (text : List ℕ) (fault : Fault) → headed_at item next text ≡ stops fault → fault.item ≡ FlatOpcode → ⊥
headed_else {X} item next isnt b [] fault h flat = refused_else {X = X} item 0 fault isnt h flat
headed_else item next isnt b (c ∷ rest) fault h flat = (b (suc (length rest)) c).never rest fault h flat

headed_blockless : {X : Type 0} (item : Item) (next : ℕ → ℕ → List ℕ → Read X) → (item ≡ FlatOpcode → ⊥) → ((left byte : ℕ) → Blockless (next left byte)) → Blockless (headed_at item next)
headed_blockless item next isnt b = record { never = headed_else item next isnt b }

row_blockless : {X : Type 0} (test : Bool) (yes' no' : List ℕ → Read X) → Blockless yes' → Blockless no' → Blockless (cond test yes' no')
row_blockless true yes' no' b c = b
row_blockless false yes' no' b c = c

refused_blockless : {X : Type 0} (left : ℕ) (item : Item) → (item ≡ FlatOpcode → ⊥) → Blockless {X = X} (λ text. refused item left)
refused_blockless {X} left item isnt = record { never = λ text fault h flat. refused_else {X = X} item left fault isnt h flat }

heap_or_blockless : (o : Option Abs) (left byte : ℕ) → Blockless (heap_or o left byte)
heap_or_blockless None left byte = made_blockless H.Idx (s33_head left byte) (s33_blockless left byte)
heap_or_blockless (Some kind) left byte = none_blockless (H.Abs kind)

heap_blockless : Blockless heap_at
heap_blockless = headed_blockless TypeStart heap_head type_isnt (λ left byte. heap_or_blockless (abs_with byte) left byte)

short_blockless : (o : Option Abs) (left : ℕ) → Blockless (short_or o left)
short_blockless None left = refused_blockless left TypeStart type_isnt
short_blockless (Some kind) left = none_blockless (ref_to true (H.Abs kind))

ref_head_blockless : (left byte : ℕ) → Blockless (ref_head left byte)
ref_head_blockless left byte = row_blockless (nat_eq byte 0x63) _ _ (made_blockless (ref_to true) heap_at heap_blockless) (row_blockless (nat_eq byte 0x64) _ _ (made_blockless (ref_to false) heap_at heap_blockless) (short_blockless (abs_with byte) left))

val_head_blockless : (left byte : ℕ) → Blockless (val_head left byte)
val_head_blockless left byte = row_blockless (nat_eq byte 0x7F) _ _ (none_blockless V.I32) (row_blockless (nat_eq byte 0x7E) _ _ (none_blockless V.I64) (made_blockless V.Ref (ref_head left byte) (ref_head_blockless left byte)))

val_blockless : Blockless val_at
val_blockless = headed_blockless TypeStart val_head type_isnt val_head_blockless

mutable_blockless : Blockless mutable_at
mutable_blockless = headed_blockless Fixed _ fixed_isnt (λ left byte. row_blockless (nat_eq byte 0x00) _ _ (none_blockless false) (row_blockless (nat_eq byte 0x01) _ _ (none_blockless true) (refused_blockless left Fixed fixed_isnt)))

storage_blockless : Blockless storage_at
storage_blockless = headed_blockless TypeStart storage_head type_isnt (λ left byte. row_blockless (nat_eq byte 0x78) _ _ (none_blockless S.I8) (row_blockless (nat_eq byte 0x77) _ _ (none_blockless S.I16) (made_blockless S.Val (val_head left byte) (val_head_blockless left byte))))

field_blockless : Blockless field_at
field_blockless = made_blockless field_of (both_at storage_at mutable_at) (both_blockless storage_at mutable_at storage_blockless mutable_blockless)

comp_head_blockless : (left byte : ℕ) → Blockless (comp_head left byte)
comp_head_blockless left byte = row_blockless (nat_eq byte 0x60) _ _ (made_blockless func_of _ (both_blockless (vector_at val_at) (vector_at val_at) (vector_blockless val_at val_blockless) (vector_blockless val_at val_blockless))) (row_blockless (nat_eq byte 0x5F) _ _ (made_blockless C.Struct (vector_at field_at) (vector_blockless field_at field_blockless)) (row_blockless (nat_eq byte 0x5E) _ _ (made_blockless C.Array field_at field_blockless) (refused_blockless left TypeStart type_isnt)))

comp_blockless : Blockless comp_at
comp_blockless = headed_blockless TypeStart comp_head type_isnt comp_head_blockless

declared_blockless : (is_final : Bool) → Blockless (declared_at is_final)
declared_blockless is_final = made_blockless (sub_of is_final) (both_at (vector_at u32_at) comp_at) (both_blockless (vector_at u32_at) comp_at (vector_blockless u32_at u32_blockless) comp_blockless)

sub_head_blockless : (left byte : ℕ) → Blockless (sub_head left byte)
sub_head_blockless left byte = row_blockless (nat_eq byte 0x50) _ _ (declared_blockless false) (row_blockless (nat_eq byte 0x4F) _ _ (declared_blockless true) (made_blockless bare_of (comp_head left byte) (comp_head_blockless left byte)))

sub_blockless : Blockless sub_at
sub_blockless = headed_blockless TypeStart sub_head type_isnt sub_head_blockless

pub group_blockless : Blockless group_at
group_blockless = headed_blockless TypeStart group_head type_isnt (λ left byte. row_blockless (nat_eq byte 0x4E) _ _ (made_blockless group_of (vector_at sub_at) (vector_blockless sub_at sub_blockless)) (made_blockless one_of (sub_head left byte) (sub_head_blockless left byte)))
