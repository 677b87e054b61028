use Rattle.std.proofs.Common.{rules, ◌≡◌, ◌≤◌, ◌++◌, ◌∙◌, ap, drop, length, arith, length-append}
use Rattle.std.proofs.lemmas.List.{drop-append-le}
use Rattle.cy_section.specs.Section.{message_field}
use Rattle.cy_writer.proofs.chunk.Chunk.put.Goals as goal

pub returns : goal.returns
returns c =
    let field = message_field record { channel_name = c.args.name.now; time = c.args.time; content = c.args.content.now } in
    let put : c.put_message.new.to ≡ c.args.self.now.section ++ field = search rules in
    let long : 16 ≤ length c.put_message.new.to = omega (arith, c.requires, ap length put, length-append c.args.self.now.section field) in
    record {
      put = ap (drop 16) put ∙ drop-append-le 16 c.args.self.now.section field c.requires;
      same = search rules;
      room = long;
      header = search rules;
      first = search rules;
      only_memory = search rules;
    }
