-- How a status is told: by a number, and by a line of text.
use Rattle.std.specs.Prelude.{ℕ, ◌⊎◌, List, [], ◌++◌, Option, false, codes}
use Rattle.std.specs.Fmt.{decimal, digits}
use Rattle.gu_outside.specs.Outside.{Rose, Appended, PrefixAdded}
use Rattle.gu_model.specs.declared.part.Part.{Part}
use Rattle.gu_model.specs.declared.part.Part.TheVariants as P
use Rattle.gu_report.specs.declared.lines.Line.{Line}
use Rattle.gu_read_parts.specs.declared.answer.Which.{Which}
use Rattle.gu_read_parts.specs.declared.answer.Which.TheVariants as W
use Rattle.gu_report.specs.declared.status.Status.{Status}
use Rattle.gu_report.specs.declared.status.Status.TheVariants as S

-- the number of a status
abbrev pub number_of : Status → ℕ
number_of S.Done = 0
number_of S.Usage = 1
number_of (S.Malformed at) = 2
number_of (S.OutOfProfile at code) = 3
number_of (S.Invalid part) = 4
number_of (S.Limit which at) = 5
number_of S.ReadFault = 6
number_of S.WriteFault = 7
number_of S.NoMemory = 8

-- a number in base 16, in lower case and without leading zeros
abbrev pub hexadecimal : ℕ → List ℕ
hexadecimal n = digits 16 false n

-- how a part of a module is named
abbrev pub part_name : Part → List ℕ
part_name (P.Ty i) = codes "type " ++ decimal i
part_name (P.Import i) = codes "import " ++ decimal i
part_name (P.Func i) = codes "function " ++ decimal i
part_name (P.Table i) = codes "table " ++ decimal i
part_name (P.Memory i) = codes "memory " ++ decimal i
part_name (P.Tag i) = codes "tag " ++ decimal i
part_name (P.Global i) = codes "global " ++ decimal i
part_name (P.Export i) = codes "export " ++ decimal i
part_name P.Start = codes "start"
part_name (P.Element i) = codes "element " ++ decimal i
part_name P.Count = codes "data count"
part_name (P.Code i) = codes "code " ++ decimal i
part_name (P.DataSeg i) = codes "data " ++ decimal i

-- how a limit is named
abbrev pub limit_name : Which → List ℕ
limit_name W.Size = codes "size"
limit_name W.Nesting = codes "nesting"
limit_name W.Types = codes "types"
limit_name W.Funcs = codes "functions"
limit_name W.Globals = codes "globals"
limit_name W.Params = codes "parameters"
limit_name W.Results = codes "results"
limit_name W.Fields = codes "fields"
limit_name W.Locals = codes "locals"
limit_name W.ModuleLocals = codes "module locals"
limit_name W.Depth = codes "depth"
limit_name W.Output = codes "output"

-- the line that tells a status, with its newline
abbrev pub line_of : Status → List ℕ
line_of S.Done = []
line_of S.Usage = codes "usage: wasm-gufa [--workers N] [--rounds K] [--report] [--generate S] [--calls] [--allocs] [--unused]\n"
line_of (S.Malformed at) = codes "wasm-gufa: malformed at " ++ decimal at ++ codes "\n"
line_of (S.OutOfProfile at code) = codes "wasm-gufa: not in profile at " ++ decimal at ++ codes ", code 0x" ++ hexadecimal code ++ codes "\n"
line_of (S.Invalid part) = codes "wasm-gufa: invalid, " ++ part_name part ++ codes "\n"
line_of (S.Limit which at) = codes "wasm-gufa: limit " ++ limit_name which ++ codes " at " ++ decimal at ++ codes "\n"
line_of S.ReadFault = codes "wasm-gufa: read failed\n"
line_of S.WriteFault = codes "wasm-gufa: write failed\n"
line_of S.NoMemory = codes "wasm-gufa: no memory\n"

-- the text of a line in pieces
abbrev pub line_text : Line → List ℕ
line_text line = line.head.now ++ line.name.now ++ line.link.now ++ line.number.now ++ line.end.now

-- a text was put whole on a sink, or a beginning of it and the sink's count of faults rose
abbrev pub IsTold : (before after : Option (List ℕ)) → (faults_before faults_after : ℕ) → List ℕ → Type 0
IsTold before after faults_before faults_after text = Appended before after text ⊎ (PrefixAdded before after text × Rose faults_before faults_after)
