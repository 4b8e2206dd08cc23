-- The limits of the hub, written out.
use Rattle.std.specs.Prelude.{◌≡◌}
use Rattle.hub_envelope.specs.declared.limits.TheConstants.{MAX_AGENTS, MAX_BODY_BYTES, MAX_ENDS, MAX_EXTENSIONS, MAX_HOPS, MAX_LINES, MAX_MOVES, MAX_NESTING, MAX_PORTS, MAX_PUT, MAX_READS, MAX_SCRIPT_LINES}

pub record TheLimits : Type 0 where
  pub agents : MAX_AGENTS ≡ 16
  pub ends : MAX_ENDS ≡ 65536
  pub lines : MAX_LINES ≡ 32
  pub ports : MAX_PORTS ≡ 16
  pub moves : MAX_MOVES ≡ 65535
  pub hops : MAX_HOPS ≡ 4
  pub put : MAX_PUT ≡ 4611686018427387904
  pub body_bytes : MAX_BODY_BYTES ≡ 262144
  pub nesting : MAX_NESTING ≡ 64
  pub script_lines : MAX_SCRIPT_LINES ≡ 4096
  pub reads : MAX_READS ≡ 1048576
  pub extensions : MAX_EXTENSIONS ≡ 64
