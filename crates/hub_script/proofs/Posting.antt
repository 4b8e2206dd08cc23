-- Posts, test by test.
use Rattle.std.proofs.Common.{◌≡◌, ℕ, List, [], map, Result, Ok, refl, ap, sym, ◌∙◌}
use Rattle.hub_envelope.specs.declared.body.BodyError.{BodyError}
use Rattle.hub_envelope.specs.declared.ids.AgentId.{AgentId}
use Rattle.hub_envelope.specs.declared.ids.EndId.{EndId}
use Rattle.hub_script.specs.declared.action.ActionKind.{ActionKind}
use Rattle.hub_script.specs.declared.action.ActionKind.TheVariants as action
use Rattle.hub_script.specs.declared.script_reader.NamedEnd.{NamedEnd}
use Rattle.hub_script.specs.Context.{acting, agent_of, declared_ends, declared_end_of_name, posting, sending, value_or}
use Rattle.hub_script.specs.Known.{Known, declared_end, giving_all, queue_of, with_holds}

pub posted : (k : Known) (n : List ℕ) (answer : Result (List ℕ) BodyError) (names : List (List ℕ)) (a : AgentId) (port : NamedEnd) (ports : List NamedEnd) (body : List ℕ)
    → declared_end_of_name k n ≡ Ok port → declared_ends k [] names ≡ Ok ports → value_or answer ≡ Ok body
    → posting k a n answer names ≡ Ok (with_holds (acting k a (action.Post (declared_end k.script port) body (map (declared_end k.script) ports))) (giving_all a ports))
unfolding posting
posted k n answer names a port ports body is listed read = rw (is, listed, read) refl

pub sent : (k : Known) (to : ℕ) (answer : Result (List ℕ) BodyError) (names : List (List ℕ)) (a b : AgentId) (ports : List NamedEnd) (body : List ℕ)
    → agent_of k to ≡ Ok b → declared_ends k [] names ≡ Ok ports → value_or answer ≡ Ok body
    → sending k a to answer names ≡ Ok (with_holds (acting k a (action.Send (queue_of b) body (map (declared_end k.script) ports))) (giving_all a ports))
unfolding sending
sent k to answer names a b ports body other listed read = rw (other, listed, read) refl

-- the action is added, and then the ports are given up
pub transferred : (k mid new : Known) (a : AgentId) (make : List EndId → ActionKind) (ports first second : List NamedEnd) (ends : List EndId)
    → first ≡ ports → second ≡ ports → map (declared_end k.script) first ≡ ends → acting k a (make ends) ≡ mid → new ≡ with_holds mid (giving_all a second)
    → with_holds (acting k a (make (map (declared_end k.script) ports))) (giving_all a ports) ≡ new
transferred k mid new a make ports first second ends same_first same_second listed acted given =
    ap (λ (xs : List NamedEnd). with_holds (acting k a (make (map (declared_end k.script) xs))) (giving_all a ports)) (sym same_first)
    ∙ ap (λ (xs : List EndId). with_holds (acting k a (make xs)) (giving_all a ports)) listed
    ∙ ap (λ (m : Known). with_holds m (giving_all a ports)) acted
    ∙ ap (λ (xs : List NamedEnd). with_holds mid (giving_all a xs)) (sym same_second)
    ∙ sym given
