-- Lists that are taken apart, number after number.
use Rattle.std.proofs.Common.{◌≡◌, ℕ, ◌+◌, ◌<◌, List, [], ◌∷◌, ◌++◌, length, take, get_or, refl, ap, inl, inr, ◌∙◌, sym, subst}
use Rattle.std.proofs.lemmas.List.{map-append, take_more, take-map}
use Rattle.hub_depot.specs.declared.kept_map.Key.{Key}
use Rattle.hub_envelope.specs.declared.ids.EndId.{EndId}
use Rattle.hub_ports.specs.Seats.{PortSeat, end_of, ends_of, place_of}
use Rattle.hub_ports.specs.Splitting.{IsSplit}

-- all were found
pub split-all : (ns : List EndId) → IsSplit ns ns []
split-all [] = (refl, refl)
split-all (n ∷ ns) = inl (ns, refl, split-all ns)

-- one more was found
pub split-found : (ns found missing : List EndId) (n : EndId) → IsSplit ns found missing → IsSplit (ns ++ n ∷ []) (found ++ n ∷ []) missing
split-found [] found missing n h = inl ([], ap (λ fs. fs ++ n ∷ []) h.0, (refl, h.1))
split-found (m ∷ ns) found missing n h =
    elim h [
      | inl w ↦ inl (w.0 ++ n ∷ [], ap (λ fs. fs ++ n ∷ []) w.1, split-found ns w.0 missing n w.2)
      | inr w ↦ inr (w.0, w.1, split-found ns found w.0 n w.2)
    ]

-- one more is missing
pub split-missing : (ns found missing : List EndId) (n : EndId) → IsSplit ns found missing → IsSplit (ns ++ n ∷ []) found (missing ++ n ∷ [])
split-missing [] found missing n h = inr ([], ap (λ fs. fs ++ n ∷ []) h.1, (h.0, refl))
split-missing (m ∷ ns) found missing n h =
    elim h [
      | inl w ↦ inl (w.0, w.1, split-missing ns w.0 missing n w.2)
      | inr w ↦ inr (w.0 ++ n ∷ [], ap (λ fs. fs ++ n ∷ []) w.1, split-missing ns found w.0 n w.2)
    ]

-- where none is missing, all were found
pub split-whole : (ns found missing : List EndId) → IsSplit ns found missing → missing ≡ [] → found ≡ ns
split-whole [] found missing h none = h.0
split-whole (n ∷ ns) found missing h none =
    elim h [
      | inl w ↦ w.1 ∙ ap (λ fs. n ∷ fs) (split-whole ns w.0 missing w.2 none)
      | inr w ↦ let wrong : n ∷ w.0 ≡ [] = sym w.1 ∙ none in cc
    ]

-- equal lists are split alike
pub split-same : (ns ns' found found' missing missing' : List EndId) → ns ≡ ns' → found ≡ found' → missing ≡ missing' → IsSplit ns found missing → IsSplit ns' found' missing'
split-same ns ns' found found' missing missing' all some none h =
    subst (λ xs. IsSplit xs found' missing') all (subst (λ fs. IsSplit ns fs missing') some (subst (λ ms. IsSplit ns found ms) none h))

-- before the first number is looked for, what is in hand begins the list and none is missing
pub split-begun : (ns found missing : List EndId) (i n : ℕ) → i ≡ n → found ≡ take n ns → missing ≡ [] → IsSplit (take i ns) found missing
split-begun ns found missing i n count begun none =
    split-same (take n ns) (take i ns) (take n ns) found [] missing (ap (λ m. take m ns) (sym count)) (sym begun) (sym none) (split-all (take n ns))

-- the numbers of a beginning of the ports begin the numbers
pub ends-begun : (k : ℕ) (ports all : List PortSeat) (ns : List EndId) → ports ≡ take k all → ns ≡ ends_of all → ends_of ports ≡ take k ns
ends-begun k ports all ns begun each = ap ends_of begun ∙ sym (take-map end_of k all) ∙ ap (λ xs. take k xs) (sym each)

-- the port of the next number was found
pub next-found : (ns : List EndId) (i : ℕ) (d : EndId) (ports ports' : List PortSeat) (missing missing' : List EndId) (p : PortSeat) → i < length ns → place_of (end_of p) ≡ place_of (get_or ns i d) → ports' ≡ ports ++ p ∷ [] → missing' ≡ missing → IsSplit (take i ns) (ends_of ports) missing → IsSplit (take (i + 1) ns) (ends_of ports') missing'
next-found ns i d ports ports' missing missing' p below named pushed same h =
    let n = get_or ns i d in
    let is_last : ends_of ports ++ n ∷ [] ≡ ends_of ports' = sym (ap ends_of pushed ∙ map-append end_of ports (p ∷ []) ∙ ap (λ (k : Key). ends_of ports ++ k.end ∷ []) named) in
    split-same _ _ _ _ _ _ (sym (take_more ns i d below)) is_last (sym same) (split-found (take i ns) (ends_of ports) missing n h)

-- the port of the next number is missing
pub next-missing : (ns : List EndId) (i : ℕ) (d : EndId) (ports ports' : List PortSeat) (missing missing' : List EndId) → i < length ns → ports' ≡ ports → missing' ≡ missing ++ get_or ns i d ∷ [] → IsSplit (take i ns) (ends_of ports) missing → IsSplit (take (i + 1) ns) (ends_of ports') missing'
next-missing ns i d ports ports' missing missing' below same pushed h =
    split-same _ _ _ _ _ _ (sym (take_more ns i d below)) (ap ends_of (sym same)) (sym pushed) (split-missing (take i ns) (ends_of ports) missing (get_or ns i d) h)
