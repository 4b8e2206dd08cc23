use Rattle.std.proofs.Common.{arith, ◌≡◌, ◌≤◌, length, true, false, refl, ap, sym, ◌∙◌}
use Rattle.std.specs.List.{list_any}
use Rattle.hub_depot.specs.declared.kept_map.Key.{Key}
use Rattle.hub_envelope.specs.declared.limits.TheConstants.{MAX_PORTS}
use Rattle.hub_ports.specs.Seats.{is_numbered}
use Rattle.hub_ports.proofs.Listed.{found-listed, listed-found}
use Rattle.hub_ports.proofs.sending.send_with_ports.Goals as goal

pub returns-then-contains_port_of_id-clause-doomed : goal.returns-then-contains_port_of_id-clause-doomed
returns-then-contains_port_of_id-clause-doomed g c =
    let ports = c.args.parcel.now.ports.items in
    let peer = c.args.line.now.name.end in
    let found : list_any (is_numbered peer) ports ≡ true =
    sym (c.contains_port_of_id.ensures ∙ ap (λ (k : Key). list_any (is_numbered k.end) c.as_slice.result.now) c.name.ensures ∙ ap (list_any (is_numbered peer)) c.as_slice.ensures.value) ∙ c.if-contains_port_of_id.true in
    let few : length ports ≤ MAX_PORTS = omega (arith, c.args.parcel.now.ports.ok.0) in
    (λ doomed. (few, found-listed peer ports found), λ holds. refl)

pub returns-clause-doomed : goal.returns-clause-doomed
returns-clause-doomed g c =
    let ports = c.args.parcel.now.ports.items in
    let peer = c.args.line.now.name.end in
    let missed : list_any (is_numbered peer) ports ≡ false =
    sym (c.contains_port_of_id.ensures ∙ ap (λ (k : Key). list_any (is_numbered k.end) c.as_slice.result.now) c.name.ensures ∙ ap (list_any (is_numbered peer)) c.as_slice.ensures.value) ∙ c.if-contains_port_of_id.false in
    (λ doomed. absurd (c.put_in_flight_and_post.ensures.doomed doomed), λ holds. let wrong : true ≡ false = sym (listed-found peer ports holds.1) ∙ missed in cc)
