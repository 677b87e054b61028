-- Some of a component's calls.
use Rattle.std.specs.Prelude.{List, take, drop}
use Rattle.cy_comp.specs.declared.call.Call.{Call}
use Rattle.cy_comp.specs.declared.made.Part.{Part}
use Rattle.cy_comp.specs.declared.made.Part.TheVariants.{First, Others}

abbrev pub part_of : Part → List Call → List Call
part_of (First count) calls = take count calls
part_of (Others count) calls = drop count calls
