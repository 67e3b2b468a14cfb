-- The status that an error of a step is told as.
use Rattle.gu_outside.specs.declared.read.ReadError.{ReadError}
use Rattle.gu_outside.specs.declared.read.ReadError.TheVariants as R
use Rattle.gu_read_parts.specs.declared.answer.ReadErr.{ReadErr}
use Rattle.gu_read_parts.specs.declared.answer.ReadErr.TheVariants as E
use Rattle.gu_read_parts.specs.declared.answer.Which.TheVariants as W
use Rattle.gu_write_parts.specs.declared.error.WriteErr.{WriteErr}
use Rattle.gu_write_parts.specs.declared.error.WriteErr.TheVariants as T
use Rattle.gu_report.specs.declared.status.Status.{Status}
use Rattle.gu_report.specs.declared.status.Status.TheVariants as S

-- taking the bytes of the input, of which at most 16,777,216 are read
abbrev pub of_source : ReadError → Status
of_source R.Fault = S.ReadFault
of_source R.TooLong = S.Limit W.Size 16777216
of_source R.NoMemory = S.NoMemory

-- reading the module that the bytes spell
abbrev pub of_reader : ReadErr → Status
of_reader (E.Malformed at) = S.Malformed at
of_reader (E.OutOfProfile at code) = S.OutOfProfile at code
of_reader (E.Limit which at) = S.Limit which at
of_reader E.NoMemory = S.NoMemory

-- writing a module, as at most 268,435,456 bytes
abbrev pub of_writer : WriteErr → Status
of_writer T.TooLong = S.Limit W.Output 268435456
of_writer T.NoMemory = S.NoMemory
