-- Forms that are the same.
use Rattle.std.specs.Prelude.{◌==◌, ◌&&◌, Bool}
use Rattle.std.specs.Str.{bytes_eq}
use Rattle.cy_value.specs.declared.form.ValueForm.{ValueForm}
use Rattle.cy_value.specs.Names.{kind_name}

-- They have one path, one kind and one scale.
abbrev pub is_same : ValueForm → ValueForm → Bool
is_same a b = bytes_eq a.path b.path && bytes_eq (kind_name a.kind) (kind_name b.kind)
    && a.scale == b.scale
