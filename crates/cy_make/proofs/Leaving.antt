-- What stands after all files were made.
use Rattle.std.proofs.Common.{◌≡◌, ℕ, List, [], ◌∷◌, ◌++◌, refl, ap, ◌∙◌}
use Rattle.std.specs.List.{flat_map}
use Rattle.std.specs.FinMap.{insert}
use Rattle.cy_store.specs.Files.{Files}
use Rattle.cy_store.specs.Write.{after_writes}
use Rattle.cy_writer.proofs.Puts.{after_writes-append, written_at-end}
use Rattle.cy_writer.proofs.RecordBytes.{after_file, after_record}
use Rattle.cy_make.specs.declared.config.Config.{Config}
use Rattle.cy_make.specs.Messages.{channels_of}
use Rattle.cy_make.specs.Texts.{suffix_of, text_of}
use Rattle.cy_make.specs.Inputs.{all_configs, config_writes, record_name, made_chunks, made_record_writes, with_config, with_configs, input_writes, with_inputs}

after_configs : (prefix : List ℕ) (cs : List Config) (m : Files) → after_writes (flat_map (config_writes prefix) cs) m ≡ with_configs prefix cs m
after_configs prefix [] m = refl
after_configs prefix (c ∷ cs) m =
    let name = prefix ++ suffix_of c in
    let text = text_of prefix c in
    after_writes-append (config_writes prefix c) (flat_map (config_writes prefix) cs) m
    ∙ ap (after_writes (flat_map (config_writes prefix) cs)) (after_file ((0, text) ∷ []) m name ∙ ap (insert m name) (written_at-end [] text 0 refl))
    ∙ after_configs prefix cs (with_config prefix m c)

pub leaves : (n : ℕ) (prefix : List ℕ) (m : Files) → after_writes (input_writes n prefix) m ≡ with_inputs n prefix m
leaves n prefix m =
    after_writes-append (flat_map (config_writes prefix) all_configs) (made_record_writes n prefix) m
    ∙ ap (after_writes (made_record_writes n prefix)) (after_configs prefix all_configs m)
    ∙ after_record (channels_of n) (made_chunks n prefix) (with_configs prefix all_configs m) (record_name prefix)
