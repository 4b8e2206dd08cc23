-- What is wrong in what was got of one line.
use Rattle.std.specs.Prelude.{◌≡◌, ℕ, Bool, false, List, ◌<◌, ◌==◌, ◌&&◌, Option, Some, None, if◌then◌else◌, slice_get, take}
use Rattle.std.specs.List.{list_any}
use Rattle.hub_trace.specs.declared.log_entry.Delivery.{Delivery}
use Rattle.hub_envelope.specs.declared.posted.Posted.{Posted}
use Rattle.hub_trace.specs.declared.verdict.FaultKind.{FaultKind}
use Rattle.hub_trace.specs.declared.verdict.FaultKind.TheVariants.{AfterClose, AfterNotice, Changed, Twice, Gap, Foreign}
use Rattle.hub_trace.specs.Content.{is_notice}
use Rattle.hub_trace.specs.Got.{Receipt}

-- whether a notice is among what was got
abbrev pub has_notice : List Receipt → Bool
has_notice receipts = list_any (λ r. is_notice r.delivery.content) receipts

-- what was got in time, with no notice before it, and is what was accepted at its place
abbrev pub IsRight : List Delivery → Bool → ℕ → Receipt → Type 0
IsRight put noticed place r = (r.late ≡ false) × (noticed ≡ false) × (slice_get put place ≡ Some r.delivery)

abbrev pub is_name_of : Posted → Posted → Bool
is_name_of a b = (a.epoch == b.epoch) && (a.number == b.number)

abbrev pub names_delivery : Option Delivery → Posted → Bool
names_delivery None posted = false
names_delivery (Some d) posted = is_name_of d.posted posted

-- what is wrong with a receipt that is not right, by what was accepted and what was got earlier: the first kind that fits
abbrev pub kind_at : List Delivery → List Receipt → ℕ → Receipt → FaultKind
kind_at put earlier place r =
    if r.late then AfterClose
    else (if has_notice earlier then AfterNotice
    else (if names_delivery (slice_get put place) r.delivery.posted then Changed
    else (if list_any (λ e. is_name_of e.delivery.posted r.delivery.posted) earlier then Twice
    else (if list_any (λ d. is_name_of d.posted r.delivery.posted) put then Gap
    else Foreign))))

-- the receipt at the place is wrong, all before it are right, and this kind is the first that fits
pub record IsFirstFault (put : List Delivery) (receipts : List Receipt) (place : ℕ) (kind : FaultKind) : Type 0 where
  pub receipt : Receipt
  pub at : slice_get receipts place ≡ Some receipt
  pub wrong : ¬ (IsRight put (has_notice (take place receipts)) place receipt)
  pub first : (k : ℕ) (r : Receipt) → k < place → slice_get receipts k ≡ Some r → IsRight put (has_notice (take k receipts)) k r
  pub kind_is : kind ≡ kind_at put (take place receipts) place receipt
