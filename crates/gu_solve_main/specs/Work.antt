-- What the program can be asked for.
use Rattle.std.specs.Prelude.{◌≤◌}
use Rattle.gu_solve_main.specs.declared.work.Task.{Task}
use Rattle.gu_solve_main.specs.declared.work.Task.TheVariants.{Close, Solve, Joins}

-- a task is for a number of workers that there can be
abbrev pub IsRunnable : Task → Type 0
IsRunnable (Close times) = Unit {0}
IsRunnable (Solve workers times) = (1 ≤ workers) × (workers ≤ 64)
IsRunnable (Joins workers) = (2 ≤ workers) × (workers ≤ 64)
