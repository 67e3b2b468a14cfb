-- Modules from their sections.
use Rattle.std.proofs.Common.{ℕ, suc, ◌≡◌, refl, ap, ◌∙◌, sym, List, [], ◌∷◌, length, Option, None, Bool, true, false, cond, nat_lt, arith}
use Rattle.std.specs.Bool.{◌==◌}
use Rattle.gu_types.specs.declared.types.RecGroup.{RecGroup}
use Rattle.gu_syntax.specs.declared.module.Func.{Func}
use Rattle.gu_syntax.specs.declared.module.Import.{Import}
use Rattle.gu_syntax.specs.declared.module.Module.{Module}
use Rattle.gu_syntax.specs.declared.module.Seg.{Seg}
use Rattle.gu_syntax.specs.Reading as G
use Rattle.gu_syntax.specs.Reading.{Read, SectionId, got, stops, refused, ◌>>=◌, both_at, then_at, made_at, some, u32_at, list_at, section_at, group_at, import_at, table_at, limits_at, tag_at, global_at, export_at, elem_at, bodies_at, segs_at, late_at, middle_at, all_at, module_of, is_due, is_missing, agrees, end_at, sections_at}
use Rattle.gu_read.specs.declared.parts.Late.{Late}
use Rattle.gu_read.specs.declared.parts.Middle.{Middle}
use Rattle.gu_read.specs.Standing.{AllStandFor, StandsForModule}
use Rattle.gu_read.specs.Parts.{IsLate, IsMiddle, is_missing_in, module_of_parts}
use Rattle.gu_read.proofs.Closing.{Holds}
use Rattle.gu_read.proofs.Sharing.{no_items}
use Rattle.std.proofs.lemmas.Bool.Decides.{nat_tests}

abbrev paired : {X Y : Type 0} → X → Read Y → Read (X × Y)
paired x r = r >>= λ y behind. got (x, y) behind

pub both_got : {X Y : Type 0} (first : List ℕ → Read X) (second : List ℕ → Read Y) (text middle rest : List ℕ) (x : X) (y : Y) → first text ≡ got x middle → second middle ≡ got y rest → both_at first second text ≡ got (x, y) rest
both_got {X} {Y} first second text middle rest x y e k = ap (λ (r : Read X). r >>= λ z more. paired z (second more)) e ∙ ap (λ (r : Read Y). paired x r) k

pub then_got : {X Y : Type 0} (first : List ℕ → Read X) (second : X → List ℕ → Read Y) (text middle rest : List ℕ) (x : X) (y : Y) → first text ≡ got x middle → second x middle ≡ got y rest → then_at first second text ≡ got (x, y) rest
then_got {X} {Y} first second text middle rest x y e k = ap (λ (r : Read X). r >>= λ z more. paired z (second z more)) e ∙ ap (λ (r : Read Y). paired x r) k

abbrev pub ReadsLate : Late → Read G.Late → List ℕ → Type 0
ReadsLate late read rest = (x : G.Late) × IsLate late x × (read ≡ got x rest)

pub late_stands : (tys text r1 r2 rest : List ℕ) (said : Option ℕ) (held : List Func) (segs : List Seg) → section_at 12 None (made_at some u32_at) text ≡ got said r1 → Holds held (section_at 10 [] (bodies_at 1000 tys) r1) r2 → section_at 11 [] (segs_at 1000 said) r2 ≡ got segs rest → ReadsLate (record { said = said; funcs = held; segs = segs }) (late_at 1000 tys text) rest
late_stands tys text r1 r2 rest said held segs e h k = ((said, (h.0, segs)), (h.1, refl), then_got (section_at 12 None (made_at some u32_at)) (λ n. both_at (section_at 10 [] (bodies_at 1000 tys)) (section_at 11 [] (segs_at 1000 n))) text r1 rest said (h.0, segs) e (both_got (section_at 10 [] (bodies_at 1000 tys)) (section_at 11 [] (segs_at 1000 said)) r1 r2 rest h.0 segs h.2 k))

abbrev pub ReadsMiddle : Middle → Read G.Middle → List ℕ → Type 0
ReadsMiddle middle read rest = (x : G.Middle) × IsMiddle middle x × (read ≡ got x rest)

pub middle_stands : (tys text r1 r2 r3 r4 r5 r6 r7 rest : List ℕ) (m : Middle) → list_at 4 (table_at 1000) text ≡ got m.tables r1 → list_at 5 limits_at r1 ≡ got m.memories r2 → list_at 13 tag_at r2 ≡ got m.tags r3 → list_at 6 (global_at 1000) r3 ≡ got m.globals r4 → list_at 7 export_at r4 ≡ got m.exports r5 → section_at 8 None (made_at some u32_at) r5 ≡ got m.start r6 → list_at 9 (elem_at 1000) r6 ≡ got m.elems r7 → ReadsLate m.late (late_at 1000 tys r7) rest → ReadsMiddle m (middle_at 1000 tys text) rest
middle_stands tys text r1 r2 r3 r4 r5 r6 r7 rest m a b c d e f g h = (
  (m.tables, (m.memories, (m.tags, (m.globals, (m.exports, (m.start, (m.elems, h.0))))))),
  (h.1, refl),
  both_got (list_at 4 (table_at 1000)) _ text r1 rest m.tables _ a (both_got (list_at 5 limits_at) _ r1 r2 rest m.memories _ b (both_got (list_at 13 tag_at) _ r2 r3 rest m.tags _ c (both_got (list_at 6 (global_at 1000)) _ r3 r4 rest m.globals _ d (both_got (list_at 7 export_at) _ r4 r5 rest m.exports _ e (both_got (section_at 8 None (made_at some u32_at)) _ r5 r6 rest m.start _ f (both_got (list_at 9 (elem_at 1000)) (late_at 1000 tys) r6 r7 rest m.elems h.0 g h.2)))))),
)

-- all sections are read
all_got : (text r1 r2 r3 rest : List ℕ) (groups : List RecGroup) (imports : List Import) (tys : List ℕ) (x : G.Middle) → list_at 1 group_at text ≡ got groups r1 → list_at 2 import_at r1 ≡ got imports r2 → list_at 3 u32_at r2 ≡ got tys r3 → middle_at 1000 tys r3 ≡ got x rest → all_at 1000 text ≡ got (groups, (imports, (tys, x))) rest
all_got text r1 r2 r3 rest groups imports tys x a b c d = both_got (list_at 1 group_at) _ text r1 rest groups _ a (both_got (list_at 2 import_at) _ r1 r2 rest imports _ b (then_got (list_at 3 u32_at) (middle_at 1000) r2 r3 rest tys x c d))

abbrev finish : G.All → List ℕ → Read Module
finish x rest = end_at (is_due x) (module_of x) rest

sections_end : (text r1 r2 r3 rest : List ℕ) (groups : List RecGroup) (imports : List Import) (tys : List ℕ) (x : G.Middle) → list_at 1 group_at text ≡ got groups r1 → list_at 2 import_at r1 ≡ got imports r2 → list_at 3 u32_at r2 ≡ got tys r3 → middle_at 1000 tys r3 ≡ got x rest → sections_at 1000 text ≡ finish (groups, (imports, (tys, x))) rest
sections_end text r1 r2 r3 rest groups imports tys x a b c d = ap (λ (r : Read G.All). r >>= λ all more. finish all more) (all_got text r1 r2 r3 rest groups imports tys x a b c d)

-- what is left over is refused
left_over : (due : Bool) (m : Module) (rest : List ℕ) → (rest ≡ [] → ⊥) → end_at due m rest ≡ refused SectionId (length rest)
left_over due m [] h = absurd (h refl)
left_over due m (b ∷ rest) h = refl

pub sections_left : (text r1 r2 r3 rest : List ℕ) (groups : List RecGroup) (imports : List Import) (tys : List ℕ) (m : Middle) → list_at 1 group_at text ≡ got groups r1 → list_at 2 import_at r1 ≡ got imports r2 → list_at 3 u32_at r2 ≡ got tys r3 → ReadsMiddle m (middle_at 1000 tys r3) rest → (rest ≡ [] → ⊥) → sections_at 1000 text ≡ refused SectionId (length rest)
sections_left text r1 r2 r3 rest groups imports tys m a b c h isnt = sections_end text r1 r2 r3 rest groups imports tys h.0 a b c h.2 ∙ left_over _ _ rest isnt

same_length : (held funcs : List Func) → AllStandFor held funcs → length held ≡ length funcs
same_length [] [] h = refl
same_length [] (g ∷ funcs) h = absurd h
same_length (f ∷ held) [] h = absurd h
same_length (f ∷ held) (g ∷ funcs) h = ap suc (same_length held funcs h.1)

late_missing : (tys : List ℕ) (late : Late) (x : G.Late) → IsLate late x → is_missing tys x ≡ is_missing_in tys late
late_missing tys late x h = ap (λ (y : G.Late). is_missing tys y) h.1 ∙ ap (λ n. cond (nat_lt n (length tys)) true (cond (agrees late.said (length late.segs)) false true)) (sym (same_length late.funcs x.1.0 h.0))

-- what is missing is refused at the end
pub sections_missing : (text r1 r2 r3 rest : List ℕ) (groups : List RecGroup) (imports : List Import) (tys : List ℕ) (m : Middle) → list_at 1 group_at text ≡ got groups r1 → list_at 2 import_at r1 ≡ got imports r2 → list_at 3 u32_at r2 ≡ got tys r3 → ReadsMiddle m (middle_at 1000 tys r3) rest → rest ≡ [] → is_missing_in tys m.late ≡ true → sections_at 1000 text ≡ refused SectionId (length rest)
sections_missing text r1 r2 r3 rest groups imports tys m a b c h none missing = sections_end text r1 r2 r3 rest groups imports tys h.0 a b c h.2 ∙ ap (λ t. finish (groups, (imports, (tys, h.0))) t) none ∙ ap (λ due. end_at due (module_of (groups, (imports, (tys, h.0)))) []) (late_missing tys m.late h.0.1.1.1.1.1.1.1 h.1.0 ∙ missing) ∙ ap (λ t. refused SectionId (length t)) (sym none)

abbrev ReadsAll : Module → Read Module → Type 0
ReadsAll held read = (m : Module) × StandsForModule held m × (read ≡ got m [])

module_stands : (groups : List RecGroup) (imports : List Import) (tys : List ℕ) (m : Middle) (x : G.Middle) → IsMiddle m x → StandsForModule (module_of_parts groups imports m) (module_of (groups, (imports, (tys, x))))
module_stands groups imports tys m x h = rw h.1 (rw h.0.1 (record { funcs = h.0.0; others = refl }))

pub sections_stand : (text r1 r2 r3 rest : List ℕ) (groups : List RecGroup) (imports : List Import) (tys : List ℕ) (m : Middle) → list_at 1 group_at text ≡ got groups r1 → list_at 2 import_at r1 ≡ got imports r2 → list_at 3 u32_at r2 ≡ got tys r3 → ReadsMiddle m (middle_at 1000 tys r3) rest → rest ≡ [] → is_missing_in tys m.late ≡ false → ReadsAll (module_of_parts groups imports m) (sections_at 1000 text)
sections_stand text r1 r2 r3 rest groups imports tys m a b c h none missing = (module_of (groups, (imports, (tys, h.0))), module_stands groups imports tys m h.0 h.1, sections_end text r1 r2 r3 rest groups imports tys h.0 a b c h.2 ∙ ap (λ t. finish (groups, (imports, (tys, h.0))) t) none ∙ ap (λ due. end_at due (module_of (groups, (imports, (tys, h.0)))) []) (late_missing tys m.late h.0.1.1.1.1.1.1.1 h.1.0 ∙ missing))

-- whether nothing is left over
true_false : true ≡ false → ⊥
true_false e = cc

no_both : (b : Bool) → b ≡ true → b ≡ false → ⊥
no_both b e f = let g : true ≡ false = sym e ∙ f in true_false g

pub is_left : (rest : List ℕ) (b : Bool) → b ≡ (length rest == 0) → b ≡ false → rest ≡ [] → ⊥
is_left rest b e false' none = let t : (length rest == 0) ≡ true = ap (λ (xs : List ℕ). length xs == 0) none in no_both b (e ∙ t) false'

zero_of : (n : ℕ) → (n == 0) ≡ true → n ≡ 0
zero_of n h = grind (arith, nat_tests)

pub none_left : (rest : List ℕ) (b : Bool) → b ≡ (length rest == 0) → b ≡ true → rest ≡ []
none_left rest b e t = no_items rest (zero_of (length rest) (sym e ∙ t))
