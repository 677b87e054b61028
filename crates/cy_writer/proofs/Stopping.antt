-- What a step comes to that stops for want of memory, and what it leaves of a writer.
use Rattle.std.proofs.Common.{◌≡◌, ℕ, List, length, get_or, slice_set, Result, Err, ap, ◌∙◌}
use Rattle.std.proofs.lemmas.List.{set-get_or}
use Rattle.cy_writer.specs.declared.error.WriteError.{WriteError}
use Rattle.cy_writer.specs.declared.error.WriteError.TheVariants as write_error
use Rattle.cy_writer.specs.declared.writing.Prepared.{Prepared}
use Rattle.cy_writer.specs.declared.writing.Writing.{Writing}
use Rattle.cy_writer.specs.Given.{Given}
use Rattle.cy_writer.specs.Kept.{IsChunkOf}
use Rattle.cy_writer.specs.Stands.{StandsFor}
use Rattle.cy_writer.specs.private.Steps.{Prepares, Gathers}

-- an item that is written back as it was
pub written_back : {A : Type 0} (items : List A) (i : ℕ) (item : A) → item ≡ get_or items i item → slice_set items i item ≡ items
written_back items i item e = ap (slice_set items i) e ∙ set-get_or items i item

-- a writer that keeps the same, in another chunk of the same messages
pub stands_same : (o p : Writing) (g : Given) → StandsFor o g → p.name ≡ o.name → p.channels.items ≡ o.channels.items
    → p.chunks.items ≡ o.chunks.items → p.place ≡ o.place → IsChunkOf p.chunk g.gathered → p.counted ≡ o.counted → StandsFor p g
stands_same o p g held name channels chunks place chunk counted = record {
  name = name ∙ held.name;
  own_names = held.own_names;
  channels = channels ∙ held.channels;
  chunks = chunks ∙ held.chunks;
  place = place ∙ held.place;
  chunk = chunk;
  counted = counted ∙ held.counted;
}

-- a message that is left out
pub not_gathered : {T : Type 0} (o p : Writing) (channel time : ℕ) (content : List ℕ) (r : Result T WriteError) (e : WriteError)
    → r ≡ Err e → e ≡ write_error.Memory → ((g : Given) → StandsFor o g → StandsFor p g)
    → p.place ≡ o.place → p.name ≡ o.name → length p.channels.items ≡ length o.channels.items
    → Gathers o p channel time content r
not_gathered o p channel time content r e is memory same place name channels =
    rw is record {
      given = λ g c held here taken. tt;
      same = λ g held. same g held;
      place = place;
      name = name;
      channels = channels;
      only_memory = memory;
    }

-- a chunk that is not prepared
pub not_prepared : (o p : Writing) (r : Result Prepared WriteError) (e : WriteError) → r ≡ Err e → e ≡ write_error.Memory
    → ((g : Given) → StandsFor o g → StandsFor p g) → p.name ≡ o.name → p.place ≡ o.place
    → length p.channels.items ≡ length o.channels.items → Prepares o p r
not_prepared o p r e is memory same name place channels =
    rw is record {
      same = same;
      header = λ g held. tt;
      body = λ g held. tt;
      body_position = tt;
      end = tt;
      room = tt;
      name = name;
      place = place;
      channels = channels;
      only_memory = memory;
    }
