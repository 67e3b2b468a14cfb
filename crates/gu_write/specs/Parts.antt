-- Parts of the text of a module (core specification 3.0, 5.5 Modules).
use Rattle.std.specs.Prelude.{ℕ, List, ◌∷◌, ◌++◌, length}
use Rattle.gu_types.specs.declared.types.SubType.{SubType}
use Rattle.gu_bytes.specs.Numbers.{least_unsigned}
use Rattle.gu_syntax.specs.Encoding.{encode_vector, section, encode_type_index, encode_comp, encode_group, encode_import, encode_table, encode_limits, encode_tag, encode_global, encode_export, encode_start, encode_elem, encode_count}
use Rattle.gu_syntax.specs.declared.module.Module.{Module}
use Rattle.gu_syntax.specs.Module.{header}
use Rattle.gu_syntax.specs.Types.{final_byte}

-- a subtype with what it declares of its place among the types
abbrev pub declared_text : SubType → List ℕ
declared_text ty = final_byte ty.is_final ∷ (encode_vector least_unsigned ty.supers ++ encode_comp ty.comp)

-- the sections up to the tags
abbrev pub types_text : Module → List ℕ
types_text m =
    section 1 encode_group m.types.groups
    ++ (section 2 encode_import m.imports
    ++ (section 3 encode_type_index m.funcs
    ++ (section 4 encode_table m.tables
    ++ (section 5 encode_limits m.memories
    ++ section 13 encode_tag m.tags))))

-- the sections from the globals up to the code
abbrev pub values_text : Module → List ℕ
values_text m =
    section 6 encode_global m.globals
    ++ (section 7 encode_export m.exports
    ++ (encode_start m.start
    ++ (section 9 encode_elem m.elems
    ++ encode_count m.has_count (length m.segs))))

-- what is before the code
abbrev pub front_text : Module → List ℕ
front_text m = header ++ (types_text m ++ values_text m)
