-- The text of a module, part by part.
use Rattle.std.proofs.Common.{ℕ, ◌+◌, ◌<◌, ◌≡◌, List, ◌++◌, length, arith, sym, ap, ◌∙◌, length-append, append_assoc}
use Rattle.gu_syntax.specs.Encoding.{section, encoding, encode_func, encode_seg}
use Rattle.gu_syntax.specs.declared.module.Func.{Func}
use Rattle.gu_syntax.specs.declared.module.Seg.{Seg}
use Rattle.gu_syntax.specs.declared.module.Module.{Module}
use Rattle.gu_write.specs.Parts.{front_text}

-- what is before the code, the code, and what is behind it
whole_is : (m : Module) → encoding m ≡ front_text m ++ (section 10 encode_func m.funcs ++ section 11 encode_seg m.segs)
unfolding encoding
whole_is m = simp append_assoc

-- what is written before the code
pub at_code : (m : Module) (q : List ℕ) (fs : List Func) → q ≡ front_text m → fs ≡ m.funcs → encoding m ≡ q ++ (section 10 encode_func fs ++ section 11 encode_seg m.segs)
at_code m q fs is funcs = whole_is m ∙ ap (λ bs. bs ++ (section 10 encode_func m.funcs ++ section 11 encode_seg m.segs)) (sym is) ∙ ap (λ gs. q ++ (section 10 encode_func gs ++ section 11 encode_seg m.segs)) (sym funcs)

-- what is written before the data segments
pub at_segs : (m : Module) (q r : List ℕ) (fs : List Func) (ss : List Seg) → q ≡ front_text m → fs ≡ m.funcs → r ≡ q ++ section 10 encode_func fs → ss ≡ m.segs → encoding m ≡ r ++ section 11 encode_seg ss
at_segs m q r fs ss is funcs code segs = at_code m q fs is funcs ∙ sym (append_assoc q (section 10 encode_func fs) (section 11 encode_seg m.segs)) ∙ ap (λ bs. bs ++ section 11 encode_seg m.segs) (sym code) ∙ ap (λ ts. r ++ section 11 encode_seg ts) (sym segs)

-- what is before the code alone is past the limit
pub front_long : (m : Module) (limit : ℕ) → limit < length (front_text m) → limit < length (encoding m)
front_long m limit past = omega (arith, past, ap length (whole_is m), length-append (front_text m) (section 10 encode_func m.funcs ++ section 11 encode_seg m.segs))

-- a part that ends past the limit
pub part_past : (limit : ℕ) (whole old part rest : List ℕ) → whole ≡ old ++ (part ++ rest) → limit < length old + length part → limit < length whole
part_past limit whole old part rest so past = omega (arith, ap length so, length-append old (part ++ rest), length-append part rest)

pub last_past : (limit : ℕ) (whole old part : List ℕ) → whole ≡ old ++ part → limit < length old + length part → limit < length whole
last_past limit whole old part so past = omega (arith, ap length so, length-append old part)
