-- The writes that are noted.
use Rattle.cy_store.specs.Write.{Write, Create, Put}
use Rattle.cy_recording.specs.declared.shown.Note.{Note}
use Rattle.cy_recording.specs.declared.shown.Note.TheVariants as note

-- The write that a note is of.
abbrev pub write_of : Note → Write
write_of (note.Create name) = Create name.now
write_of (note.Put name at bytes) = Put name.now at bytes.now
