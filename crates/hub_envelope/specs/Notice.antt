-- The notice by which a closed port says that nothing more comes on its line (this project's own).
use Rattle.std.specs.Prelude.{[], true, codes}
use Rattle.hub_envelope.specs.declared.envelope.Draft.{Draft}

-- agent 0, the body `null` and no ports
abbrev pub notice_draft : Draft
notice_draft = record { agent = record { 0 = 0 }; body = codes "null"; ports = []; notice = true }
