-- Sets that are shown alike have one description: it says nothing of where the parts stand, nor of any bits but those
-- of the members.
use Rattle.std.proofs.Common.{◌≡◌, ℕ, List, Option, None, Some, refl, sym, ap, ◌∙◌}
use Rattle.std.specs.Prelude.{◌++◌, codes}
use Rattle.std.specs.Option.{option_map}
use Rattle.hex.specs.Hex.{encode_lower}
use Rattle.per_bits.specs.Bits.{Part, octets_of}
use Rattle.per_bits.specs.Parts.{Member, members_of}
use Rattle.msd_values.specs.declared.msd.Msd.{Msd}
use Rattle.msd_values.specs.declared.msd.Extra.{Extra}
use Rattle.msd_values.specs.Additions.{members_text, additions_text}
use Rattle.msd_values.specs.Description.{lines_of, description}
use Rattle.msd_values.specs.Texts.{or_none, content_text, extra_text}

-- the members of a section
abbrev pub members_in : Part → List Member
members_in section = members_of section.bits

-- the octets of additional data
abbrev pub octets_in : Extra → List ℕ × List ℕ
octets_in extra = (octets_of extra.oid.bits, octets_of extra.content.bits)

pub record IsShownAlike (a b : Msd) : Type 0 where
  pub format : a.format ≡ b.format
  pub message : a.message ≡ b.message
  pub automatic : a.automatic ≡ b.automatic
  pub test : a.test ≡ b.test
  pub trusted : a.trusted ≡ b.trusted
  pub kind : a.kind ≡ b.kind
  pub vin : a.vin ≡ b.vin
  pub fuel : a.fuel ≡ b.fuel
  pub fuel_more : option_map members_in a.fuel_more ≡ option_map members_in b.fuel_more
  pub time : a.time ≡ b.time
  pub latitude : a.latitude ≡ b.latitude
  pub longitude : a.longitude ≡ b.longitude
  pub heading : a.heading ≡ b.heading
  pub before1 : a.before1 ≡ b.before1
  pub before2 : a.before2 ≡ b.before2
  pub passengers : a.passengers ≡ b.passengers
  pub set_more : option_map members_in a.set_more ≡ option_map members_in b.set_more
  pub extra : option_map octets_in a.extra ≡ option_map octets_in b.extra
  pub message_more : option_map members_in a.message_more ≡ option_map members_in b.message_more

more_text : (more : Option Part) → or_none additions_text more ≡ or_none members_text (option_map members_in more)
more_text None = refl
more_text (Some section) = refl

same_more : (a b : Option Part) → option_map members_in a ≡ option_map members_in b → or_none additions_text a ≡ or_none additions_text b
same_more a b same = more_text a ∙ ap (or_none members_text) same ∙ sym (more_text b)

octets_text : List ℕ × List ℕ → List ℕ
octets_text octets = encode_lower octets.0 ++ (codes " " ++ content_text octets.1)

extra_by_octets : (extra : Option Extra) → or_none extra_text extra ≡ or_none octets_text (option_map octets_in extra)
unfolding octets_text
extra_by_octets None = refl
extra_by_octets (Some extra) = refl

same_extra : (a b : Option Extra) → option_map octets_in a ≡ option_map octets_in b → or_none extra_text a ≡ or_none extra_text b
same_extra a b same = extra_by_octets a ∙ ap (or_none octets_text) same ∙ sym (extra_by_octets b)

pub same_description : (a b : Msd) → IsShownAlike a b → description a ≡ description b
unfolding description lines_of
same_description a b alike =
    rw (
      alike.format,
      alike.message,
      alike.automatic,
      alike.test,
      alike.trusted,
      alike.kind,
      alike.vin,
      alike.fuel,
      alike.time,
      alike.latitude,
      alike.longitude,
      alike.heading,
      alike.before1,
      alike.before2,
      alike.passengers,
      same_more a.fuel_more b.fuel_more alike.fuel_more,
      same_more a.set_more b.set_more alike.set_more,
      same_extra a.extra b.extra alike.extra,
      same_more a.message_more b.message_more alike.message_more,
    ) refl
