-- Runs of locals that are read one by one.
use Rattle.std.proofs.Common.{ℕ, ◌+◌, ◌-◌, ◌*◌, ◌^◌, ◌≤◌, ◌<◌, ◌≡◌, refl, ap, ◌∙◌, sym, List, [], ◌∷◌, ◌++◌, nat_lt, true, false, cond, arith, Some, None}
use Rattle.std.proofs.lemmas.List.{append-nil}
use Rattle.gu_types.specs.declared.types.ValType.{ValType}
use Rattle.gu_syntax.specs.Expressions.{merged}
use Rattle.gu_syntax.specs.Reading.{Read, got, stops, ◌>>=◌, made_at, u32_at, items_at, vector_at, run_at}
use Rattle.gu_read_parts.specs.declared.stop.Stop.{Stop}
use Rattle.gu_read_parts.specs.Gives.{Fails}
use Rattle.gu_read_parts.proofs.Vectors.{Reads, goes_on, fails_on, behind}
use Rattle.gu_read_code.specs.Entries.{total, held_runs}
use Rattle.gu_read_code.specs.Runs.{added}
use Rattle.gu_read_code.proofs.Opening.{fails_bind}
use Rattle.gu_read_code.proofs.Merging.{merged_push, total-push}

abbrev Run : Type 0
Run = ℕ × ValType

-- so many runs are read and merged, and the others are still to be read
pub record ReadsRuns (count : ℕ) (whole : Read (List Run)) (kept : List Run) (counted counter : ℕ) (rest : List ℕ) : Type 0 where
  pub runs : List Run
  pub reads : Reads run_at count whole runs counter rest
  pub counts : counted ≡ total runs
  pub merges : total runs < 2 ^ 32 → kept ≡ merged runs
  pub bound : counted ≤ counter * 0xFFFF_FFFF

behind-none : (read : Read (List Run)) → behind [] read ≡ read
behind-none (got runs rest) = refl
behind-none (stops fault) = refl

less-none : (n : ℕ) → n - 0 ≡ n
less-none n = omega arith

pub runs_begin : (bytes rest : List ℕ) (count : ℕ) → u32_at bytes ≡ got count rest → ReadsRuns count (vector_at run_at bytes) [] 0 0 rest
runs_begin bytes rest count e = record {
  runs = [];
  reads = record { so_far = behind-none (items_at run_at (count - 0) rest) ∙ ap (λ n. items_at run_at n rest) (less-none count) ∙ sym (ap (λ (r : Read ℕ). r >>= λ n behind. items_at run_at n behind) e) };
  counts = refl;
  merges = λ few. refl;
  bound = omega arith;
}

pub runs_go_on : (count : ℕ) (whole : Read (List Run)) (kept after : List Run) (counted counter : ℕ) (rest others : List ℕ) (run : Run) → counter < count → run.0 < 2 ^ 32 → run_at rest ≡ got run others → (counted + run.0 < 2 ^ 32 → after ≡ added kept run) → ReadsRuns count whole kept counted counter rest → ReadsRuns count whole after (counted + run.0) (counter + 1) others
runs_go_on count whole kept after counted counter rest others run less fits e adds r =
    let sum : counted + run.0 ≡ total (r.runs ++ run ∷ []) = ap (λ n. n + run.0) r.counts ∙ sym (total-push r.runs run) in
    record {
      runs = r.runs ++ run ∷ [];
      reads = goes_on run_at count whole r.runs run counter rest others less e r.reads;
      counts = sum;
      merges = λ few. adds (omega (arith, few, sum)) ∙ ap (λ (runs : List Run). added runs run) (r.merges (omega (arith, few, total-push r.runs run))) ∙ sym (merged_push r.runs run);
      bound = omega (arith, fits, r.bound);
    }

pub runs_fail : (stop : Stop) (count : ℕ) (bytes rest : List ℕ) (kept : List Run) (counted counter : ℕ) → counter < count → Fails stop (run_at rest) → ReadsRuns count (vector_at run_at bytes) kept counted counter rest → Fails stop (made_at held_runs (vector_at run_at) bytes)
runs_fail stop count bytes rest kept counted counter less h r = fails_bind stop (vector_at run_at bytes) (λ runs behind. got (held_runs runs) behind) (fails_on run_at count (vector_at run_at bytes) stop r.runs counter rest less h r.reads)

none_more : (count counter : ℕ) → count ≤ counter → count - counter ≡ 0
none_more count counter h = omega (arith, h)

runs_end : (count : ℕ) (bytes rest : List ℕ) (kept : List Run) (counted counter : ℕ) → count ≤ counter → (r : ReadsRuns count (vector_at run_at bytes) kept counted counter rest) → made_at held_runs (vector_at run_at) bytes ≡ got (held_runs r.runs) rest
runs_end count bytes rest kept counted counter h r =
    ap (λ (read : Read (List Run)). read >>= λ runs behind. got (held_runs runs) behind) (sym r.reads.so_far ∙ ap (λ n. behind r.runs (items_at run_at n rest)) (none_more count counter h))
    ∙ ap (λ runs. got (held_runs runs) rest) (append-nil r.runs)

below : (a b : ℕ) → a < b → nat_lt a b ≡ true
below a b h = grind (arith, h)

not_below : (a b : ℕ) → b ≤ a → nat_lt a b ≡ false
not_below a b h = grind (arith, h)

pub runs_many : (count : ℕ) (bytes rest : List ℕ) (kept : List Run) (counted counter : ℕ) → count ≤ counter → 0xFFFF_FFFF < counted → ReadsRuns count (vector_at run_at bytes) kept counted counter rest → made_at held_runs (vector_at run_at) bytes ≡ got None rest
runs_many count bytes rest kept counted counter h many r =
    let big : 2 ^ 32 ≤ total r.runs = omega (arith, many, r.counts) in
    runs_end count bytes rest kept counted counter h r
    ∙ ap (λ b. got (cond b (Some (merged r.runs)) None) rest) (not_below (total r.runs) (2 ^ 32) big)

pub runs_few : (count : ℕ) (bytes rest : List ℕ) (kept : List Run) (counted counter : ℕ) → count ≤ counter → counted ≤ 0xFFFF_FFFF → ReadsRuns count (vector_at run_at bytes) kept counted counter rest → made_at held_runs (vector_at run_at) bytes ≡ got (Some kept) rest
runs_few count bytes rest kept counted counter h few r =
    let small : total r.runs < 2 ^ 32 = omega (arith, few, r.counts) in
    runs_end count bytes rest kept counted counter h r
    ∙ ap (λ b. got (cond b (Some (merged r.runs)) None) rest) (below (total r.runs) (2 ^ 32) small)
    ∙ ap (λ runs. got (Some runs) rest) (sym (r.merges small))
