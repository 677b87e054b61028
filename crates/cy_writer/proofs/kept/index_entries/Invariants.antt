use Rattle.std.proofs.Common.{◌≡◌, ◌++◌, ◌∷◌, [], map, take}
use Rattle.std.specs.List.{flat_map}
use Rattle.cy_writer.specs.declared.kept.KeptChunk.{KeptChunk}
use Rattle.cy_writer.specs.Kept.{channel_entry, header_entry, body_entry}
use Rattle.cy_writer.proofs.kept.index_entries.Given as goal

abbrev pub invariant-loop-chunk : goal.invariant-loop-chunk
invariant-loop-chunk l =
    l.entries.items ≡ map channel_entry l.fn.channels.items ++ flat_map (λ (k : KeptChunk). header_entry k ∷ body_entry k ∷ []) (take l.chunk-index l.chunks)
