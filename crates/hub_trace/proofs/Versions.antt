-- The headers and the limits of the versions.
use Rattle.std.proofs.Common.{◌≡◌, ℕ, ◌≤◌, List, true, cond, length, bytes_eq, Some, None, refl, ap, ◌∙◌, arith}
use Rattle.std.specs.Cmp.Lexicographic.{bytes_decides}
use Rattle.hub_envelope.specs.BodyText.{IsBodyText}
use Rattle.hub_trace.specs.declared.content.Content.{Content}
use Rattle.hub_trace.specs.declared.content.Content.TheVariants.{Payload, Notice}
use Rattle.hub_envelope.specs.declared.posted.Posted.{Posted}
use Rattle.hub_trace.specs.declared.log_entry.Delivery.{Delivery}
use Rattle.hub_trace.specs.declared.log_entry.LogEntry.{LogEntry}
use Rattle.hub_trace.specs.declared.log_entry.LogEntry.TheVariants.{Put, Got, Adopted, Closed}
use Rattle.hub_trace.specs.declared.log_version.LogVersion.{LogVersion}
use Rattle.hub_trace.specs.declared.log_version.LogVersion.TheVariants.{First, Second, Third}
use Rattle.hub_trace.specs.Limits.{IsContentWithin, IsDeliveryWithin, IsEntryWithin, IsPostedWithin}
use Rattle.hub_trace.specs.LogVersion.{header_of, max_line, version_of}
use Rattle.hub_trace.proofs.Cases.{by_test}

pub lines_few : (v : LogVersion) → max_line v ≤ 31
lines_few First = omega arith
lines_few Second = omega arith
lines_few Third = omega arith

pub body_short : (text : List ℕ) → IsBodyText text → length text ≤ 262144
body_short text h = rw h.compact h.profile.short

-- ---- what is within the limits of a version is within those of the third

posted_wider : (v : LogVersion) (l : Posted) → IsPostedWithin v l → IsPostedWithin Third l
posted_wider v l h = record {
  end = h.end;
  line = let le = h.line in let few = lines_few v in omega arith;
  epoch = h.epoch;
  number = h.number;
}

content_wider : (v : LogVersion) (c : Content) → IsContentWithin v c → IsContentWithin Third c
content_wider v (Payload m) h = record { ports = h.ports; body = h.body; short = body_short m.1 h.body }
content_wider v Notice h = refl

delivery_wider : (v : LogVersion) (d : Delivery) → IsDeliveryWithin v d → IsDeliveryWithin Third d
delivery_wider v d h = record { posted = posted_wider v d.posted h.posted; content = content_wider v d.content h.content }

pub entry_wider : (v : LogVersion) (e : LogEntry) → IsEntryWithin v e → IsEntryWithin Third e
entry_wider v (Put d) h = delivery_wider v d h
entry_wider v (Got d) h = delivery_wider v d h
entry_wider v (Adopted e k) h = h
entry_wider v (Closed e) h = h

-- ---- headers

same_bytes : (a b : List ℕ) → bytes_eq a b ≡ true → a ≡ b
same_bytes a b t = (bytes_decides a b).0 t

pub header_found : (header : List ℕ) (v : LogVersion) → version_of header ≡ Some v → header ≡ header_of v
header_found header v =
    by_test (λ b. cond b (Some First) (cond (bytes_eq header (header_of Second)) (Some Second) (cond (bytes_eq header (header_of Third)) (Some Third) None)) ≡ Some v → header ≡ header_of v) (bytes_eq header (header_of First))
    (λ t found. let is : First ≡ v = cc in same_bytes header (header_of First) t ∙ ap header_of is)
    (λ _. by_test (λ b. cond b (Some Second) (cond (bytes_eq header (header_of Third)) (Some Third) None) ≡ Some v → header ≡ header_of v) (bytes_eq header (header_of Second))
    (λ t found. let is : Second ≡ v = cc in same_bytes header (header_of Second) t ∙ ap header_of is)
    (λ _. by_test (λ b. cond b (Some Third) None ≡ Some v → header ≡ header_of v) (bytes_eq header (header_of Third))
    (λ t found. let is : Third ≡ v = cc in same_bytes header (header_of Third) t ∙ ap header_of is)
    (λ _ found. let wrong : None ≡ Some v = found in cc)))
