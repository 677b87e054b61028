-- What is read, without where it lies in memory.
use Rattle.std.specs.Prelude.{reverse}
use Rattle.cy_text.specs.Form.{Building, Reading}
use Rattle.cy_text.specs.declared.building.Building as code
use Rattle.cy_text.specs.declared.building.Reading as code_reading

abbrev pub view_building : code.Building → Building
view_building b = record { frames = reverse b.frames.items; fields = b.fields }

abbrev pub view_reading : code_reading.Reading → Reading
view_reading r = record { building = view_building r.building; next = r.next }
