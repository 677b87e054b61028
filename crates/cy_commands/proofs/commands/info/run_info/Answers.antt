use Rattle.std.proofs.Common.{◌≡◌, refl}
use Rattle.cy_commands.specs.Commands.InfoWork.{IsInfoWork, told_of}
use Rattle.cy_args.specs.Command.{Info}
use Rattle.cy_args.specs.Views.{info_words_of}
use Rattle.cy_commands.proofs.Refusing.{starved, told, unset}
use Rattle.cy_commands.proofs.commands.info.run_info.Goals as goal

pub returns-in-Err : goal.returns-in-Err
returns-in-Err g c =
    let w = info_words_of c.args.info.now in
    unset (Info w) (λ read. read) (told_of w) (λ name. name ≡ w.file) _ _ c.in-Err.error _ _ record { asked = λ file a. a; refused = λ due line r. r; absent = λ file h. h } c.in-Err.ensures c.due_after_failed_setup.ensures

pub returns-in-Ok-text : goal.returns-in-Ok-text
returns-in-Ok-text g c =
    let w = info_words_of c.args.info.now in
    told (Info w) (λ read. read) (told_of w) IsInfoWork (λ name. name ≡ w.file) _ _ c.in-Ok.record c.in-Ok-text.text (λ work a. a) c.in-Ok.ensures (record { silent = refl; text = c.in-Ok-text.ensures.text })

pub returns-in-Err-text : goal.returns-in-Err-text
returns-in-Err-text g c = starved (Info (info_words_of c.args.info.now)) _ _ _ _ c.in-Ok.ensures.same record { status = c.out_of_memory.ensures.status; told = c.out_of_memory.ensures.line }
