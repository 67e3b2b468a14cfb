-- Sections that are read together, against what the grammar reads for them.
use Rattle.std.specs.Prelude.{ℕ, ◌≡◌, List, length, Bool, true, false, nat_lt, if◌then◌else◌}
use Rattle.gu_types.specs.declared.types.RecGroup.{RecGroup}
use Rattle.gu_syntax.specs.declared.module.Import.{Import}
use Rattle.gu_syntax.specs.declared.module.Module.{Module}
use Rattle.gu_syntax.specs.Reading as G
use Rattle.gu_syntax.specs.Reading.{agrees, is_said}
use Rattle.gu_read.specs.declared.parts.Late.{Late}
use Rattle.gu_read.specs.declared.parts.Middle.{Middle}
use Rattle.gu_read.specs.Standing.{AllStandFor}

-- the sections from the number of data segments on
abbrev pub IsLate : Late → G.Late → Type 0
IsLate late x = AllStandFor late.funcs x.1.0 × (x ≡ (late.said, (x.1.0, late.segs)))

-- the sections from the tables on
abbrev pub IsMiddle : Middle → G.Middle → Type 0
IsMiddle middle x = IsLate middle.late x.1.1.1.1.1.1.1 × (x ≡ (middle.tables, (middle.memories, (middle.tags, (middle.globals, (middle.exports, (middle.start, (middle.elems, x.1.1.1.1.1.1.1))))))))

-- whether functions of these types, or data segments that are said, are missing
abbrev pub is_missing_in : List ℕ → Late → Bool
is_missing_in tys late = if nat_lt (length late.funcs) (length tys) then true else (if agrees late.said (length late.segs) then false else true)

-- the module of these sections
abbrev pub module_of_parts : List RecGroup → List Import → Middle → Module
module_of_parts groups imports middle = record {
  types = record { groups = groups };
  imports = imports;
  funcs = middle.late.funcs;
  tables = middle.tables;
  memories = middle.memories;
  tags = middle.tags;
  globals = middle.globals;
  exports = middle.exports;
  start = middle.start;
  elems = middle.elems;
  has_count = is_said middle.late.said;
  segs = middle.late.segs;
}
