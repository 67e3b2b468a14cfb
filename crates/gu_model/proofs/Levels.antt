-- Every level over the bottom is good.
use Rattle.std.proofs.Common.{ℕ, zero, suc, Bool, List, map, Option, Some, None}
use Rattle.gu_types.specs.declared.types.RefType.{RefType}
use Rattle.gu_types.specs.declared.types.ValType.{ValType}
use Rattle.gu_syntax.specs.declared.module.Module.{Module}
use Rattle.gu_model.specs.Outline.{Outline}
use Rattle.gu_model.specs.State.{State, out, spent}
use Rattle.gu_model.specs.Control.{Level, do_enter}
use Rattle.gu_model.specs.Play.{work, level_over, bottom}
use Rattle.gu_model.specs.TypingContext.{Context}
use Rattle.gu_model.specs.ValidContext.{entries_type}
use Rattle.gu_model.proofs.GoodTypes.{GoodTypes}
use Rattle.gu_model.proofs.Stores.{StoreFits, later_same}
use Rattle.gu_model.proofs.ActRows.{within_module}
use Rattle.gu_model.proofs.References.{GoodFuncs}
use Rattle.gu_model.proofs.Enters.{due_types, GoodLevel, GoodBodies, EntersOf, EndOf, enters_good, runs_good, turn_good}
use Rattle.gu_model.proofs.Serves.{moves_good}

module _ (o : Outline) (good : GoodTypes o.types) (funcs : GoodFuncs o) (es : List RefType) (segs : ℕ) (declared : List Bool) where
  abbrev K : Context
  K = within_module o o.globals (map entries_type o.tables) es segs declared

  abbrev LevelOf : Level → Type 0
  LevelOf low = GoodLevel o good funcs es segs declared low

  spent_end : (w : Option (List ValType)) (st : State) → StoreFits o K st.core.store → EndOf o good funcs es segs declared w st.core.store (out spent st)
  spent_end None st sf = record { later = later_same o K st.core.store sf; is = tt }
  spent_end (Some us) st sf = record { later = later_same o K st.core.store sf; is = tt }

  bottom_good : LevelOf bottom
  bottom_good = record {
    runs = λ a c st s e h f sf. record { later = later_same o K st.core.store sf; is = tt };
    turns = record { goes_on = λ a t c u e below st h top ls inner sf. record { later = later_same o K st.core.store sf; is = tt } };
    enters = record { ends = λ f t st e top sf. spent_end (Some t.results) st sf };
    serves = λ w st sf. spent_end (due_types w) st sf;
  }

  module _ (m : Module) (bodies : GoodBodies o good funcs es segs declared m) where
    -- a level over a good one
    work_good : (low : Level) → LevelOf low → LevelOf (work o (do_enter o m low) low)
    work_good low level = record {
      runs = runs_good o good funcs es segs declared m bodies low level;
      turns = record { goes_on = turn_good o good funcs es segs declared m bodies low level };
      enters = enters_good o good funcs es segs declared m bodies low level;
      serves = λ w st sf. moves_good o good funcs es segs declared (do_enter o m low) (enters_good o good funcs es segs declared m bodies low level) low level w st.moves st sf;
    }

    pub level_good : (n : ℕ) → LevelOf (level_over bottom o m n)
    level_good zero = bottom_good
    level_good (suc n) = work_good (level_over bottom o m n) (level_good n)

    -- the call of a function over so many levels
    pub calls_good : (n : ℕ) → EntersOf o good funcs es segs declared (do_enter o m (level_over bottom o m n))
    calls_good n = enters_good o good funcs es segs declared m bodies (level_over bottom o m n) (level_good n)
