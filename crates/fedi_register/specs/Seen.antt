-- An activity, as contracts see it.
use Rattle.fedi_town.specs.declared.act.Act.{Act}
use Rattle.fedi_register.specs.Parts.{Names, named_part, parts_in, rare_part, referred, repeat_in}
use Rattle.fedi_register.specs.declared.kept.Kept.TheInside.{Inside}
use Rattle.fedi_register.specs.declared.parts.Rare.{Rare}

-- the whole activity
abbrev pub seen : Inside → Act
seen k =
    let names : Names = named_part (parts_in k.beside) k.about in
    let rare : Rare = rare_part (parts_in k.beside) in record {
      author = k.author;
      activity = record {
        id = k.id;
        kind = k.kind;
        actor = k.actor.value;
        object = referred k.about;
        target = rare.target;
        recipients = record {
          to = names.to;
          cc = names.cc;
          bto = k.hidden.bto.value;
          bcc = k.hidden.bcc.value;
          audience = names.audience;
        };
        in_reply_to = rare.in_reply_to;
        content = rare.content;
        summary = rare.summary;
        name = rare.name;
        published = names.published;
        tags = rare.tags;
      };
      repeat = repeat_in k.beside;
      moment = k.moment;
      recipients = k.recipients;
      forwards = rare.forwards;
      is_public = k.is_public;
      for_followers = k.for_followers;
      state = k.state;
    }
