-- What the components make of their streams, from their first state to their end. (The exact rules are this project's own.)
use Rattle.std.specs.Prelude.{◌≡◌, ◌≢◌, ℕ, zero, suc, ◌+◌, ◌<◌, ◌≤◌, Bool, true, false, max, replicate, List, [], ◌++◌, length, map, nat_lt, if◌then◌else◌}
use Rattle.std.specs.List.{flat_map}
use Rattle.flow_packet.specs.Tree.{Tree, packet_of, kind_of, text_of}
use Rattle.flow_component.specs.Happenings.{Happening}
use Rattle.flow_component.specs.Runs.{EndedRun, EndIsLast, got, sent, Wakes, HeardEnd, StartsBring, GivesText, text_packet, starts}
use Rattle.flow_streams.specs.declared.copy.CopyPlace.TheVariants.{Waiting}
use Rattle.flow_streams.specs.Copy.{CopyState, copy_rules}
use Rattle.flow_streams.specs.Concat.{ConcatState, concat_rules}
use Rattle.flow_streams.specs.declared.collate.CollatePlace.TheVariants.{Filling}
use Rattle.flow_streams.specs.CollateState.{CollateState}
use Rattle.flow_streams.specs.Collate.{collate_rules}
use Rattle.flow_streams.specs.Collated.{collation, listed}
use Rattle.flow_streams.specs.Discard.{discard_rules}
use Rattle.flow_streams.specs.Hoard.{hoard_rules}
use Rattle.flow_streams.specs.declared.load_balance.LoadPlace.TheVariants as loads
use Rattle.flow_streams.specs.LoadBalance.{LoadState, load_rules}
use Rattle.flow_streams.specs.Split.{IsSplit}
use Rattle.flow_streams.specs.declared.bundle.Bundle.TheVariants as bundles
use Rattle.flow_streams.specs.Bundle.{bundle_rules}
use Rattle.flow_streams.specs.Bundled.{bundled, Outside}
use Rattle.flow_streams.specs.Passthru.{passthru_rules}
use Rattle.flow_streams.specs.declared.unbundle.Unbundle.TheVariants as unbundles
use Rattle.flow_streams.specs.Unbundle.{unbundle_rules}
use Rattle.flow_streams.specs.Unbundled.{unbundled}
use Rattle.flow_streams.specs.declared.select.SelectPlace.TheVariants as selects
use Rattle.flow_streams.specs.Select.{SelectState, select_rules}
use Rattle.flow_streams.specs.Selected.{IsSelected}

-- A Passthru sends what it gets.
abbrev pub PassthruMeaning : Type 0 → Type 0
PassthruMeaning K = (component : K) (told : List Happening) → EndedRun passthru_rules component told → sent 0 told ≡ got 0 told

-- A Copy at its start.
abbrev pub fresh_copy : ℕ → CopyState
fresh_copy count = record { count = count; place = Waiting }

-- A packet of the same kind and text, without chains.
abbrev pub bare : Tree → Tree
bare packet = packet_of 0 (kind_of packet) (text_of packet) []

-- What output o of n gets of a packet: the last one the packet itself, each other one a packet of its kind and text without chains.
abbrev pub share : ℕ → ℕ → Tree → Tree
share n o packet = if nat_lt (o + 1) n then bare packet else packet

-- A Copy sends to each of its n outputs, for each packet that it gets, the share of that output.
abbrev pub CopyMeaning : Type 0
CopyMeaning = (n : ℕ) (told : List Happening) → EndedRun copy_rules (fresh_copy n) told → (o : ℕ) → o < n → sent o told ≡ map (share n o) (got 0 told)

-- A Concat at its start.
abbrev pub fresh_concat : ℕ → ConcatState
fresh_concat count = record { count = count; at = 0 }

-- What was got at n inputs, from number k on, one after another.
abbrev pub got_from : ℕ → ℕ → List Happening → List Tree
got_from k zero told = []
got_from k (suc n) told = got k told ++ got_from (k + 1) n told

-- A Concat sends what it gets at its first input, then what it gets at the next, and so on; it was started once at most, and has heard the end of each input once it
-- was started.
abbrev pub ConcatMeaning : Type 0
ConcatMeaning = (n : ℕ) (told : List Happening) → EndedRun concat_rules (fresh_concat (n + 1)) told → Wakes (n + 1) [] told
    → (sent 0 told ≡ got_from 0 (n + 1) told) × (starts told ≤ 1) × (told ≢ [] → (i : ℕ) → i ≤ n → HeardEnd i told)

-- A Collate at its start.
abbrev pub fresh_collate : List ℕ → ℕ → CollateState
fresh_collate fields elements = record { fields = fields; elements = elements; owners = []; opened = false; last = []; place = Filling 0 }

-- A Collate that has come to its end has sent the collation of what it got at its inputs; it was started once at most, and has heard the end of each input once it
-- was started.
abbrev pub CollateMeaning : Type 0
CollateMeaning = (fields : List ℕ) (n : ℕ) (told : List Happening) → 1 ≤ length fields → 1 ≤ n → EndedRun collate_rules (fresh_collate fields n) told → Wakes n [] told
    → (sent 0 told ≡ collation fields (listed 0 n (λ i. got i told))) × (starts told ≤ 1) × (told ≢ [] → (i : ℕ) → i < n → HeardEnd i told)

-- A Discard sends nothing, and neither does a Hoard.
abbrev pub DiscardMeaning : Type 0 → Type 0
DiscardMeaning K = (component : K) (told : List Happening) → EndedRun discard_rules component told → (port : ℕ) → sent port told ≡ []

-- A Hoard sends nothing, over whole runs.
abbrev pub HoardMeaning : Type 0 → Type 0
HoardMeaning K = (component : K) (told : List Happening) → EndedRun hoard_rules component told → (port : ℕ) → sent port told ≡ []

-- An Unbundle sends what it gets, with each packet that has a chain of items replaced by a substream of them.
abbrev pub UnbundleMeaning : Type 0
UnbundleMeaning = (told : List Happening) → EndedRun unbundle_rules unbundles.Waiting told → sent 0 told ≡ flat_map unbundled (got 0 told)

-- A LoadBalance at its start.
abbrev pub fresh_load : ℕ → LoadState
fresh_load count = record { count = count; depth = 0; chosen = 0; place = loads.Waiting }

-- What a LoadBalance sends is a split of what it gets, substreams whole.
abbrev pub LoadBalanceMeaning : Type 0
LoadBalanceMeaning = (n : ℕ) (told : List Happening) → EndedRun load_rules (fresh_load n) told → IsSplit n (got 0 told) (λ o. sent o told)

-- A Bundle sends what it gets, with each substream replaced by its bundle.
abbrev pub BundleMeaning : Type 0
BundleMeaning = (told : List Happening) → EndedRun bundle_rules bundles.Outside told → sent 0 told ≡ bundled Outside (got 0 told)

-- A Select at its start.
abbrev pub fresh_select : Bool → SelectState
fresh_select rejects = record { rejects = rejects; place = selects.Waiting }

-- A Select whose inputs end for good makes of what it gets its selection.
abbrev pub SelectMeaning : Type 0
SelectMeaning = (rejects : Bool) (told : List Happening) → EndedRun select_rules (fresh_select rejects) told → EndIsLast 0 told → EndIsLast 1 told
    → IsSelected rejects (got 0 told) (got 1 told) (sent 0 told) (sent 1 told)

-- Where each start gives a text anew at one of its inputs, it gets that once in each activation, and nothing behind an end.
abbrev pub SelectTakesTexts : Type 0
SelectTakesTexts = (rejects : Bool) (told : List Happening) → EndedRun select_rules (fresh_select rejects) told → (port : ℕ) (text : List ℕ) → port < 2 → GivesText port text false told
    → (got port told ≡ replicate (starts told) (text_packet text)) × EndIsLast port told

-- How many packets came at an input, where it is one of these.
abbrev pub count_among : (ℕ → Bool) → ℕ → List Happening → ℕ
count_among among port told = if among port then length (got port told) else 0

-- Where each activation brings something at one of some inputs, which end for good, there are as many activations as packets at the one of these that has the most.
abbrev pub SelectStarts : Type 0
SelectStarts = (rejects : Bool) (told : List Happening) → EndedRun select_rules (fresh_select rejects) told → (among : ℕ → Bool) → StartsBring (λ port. (port < 2) × (among port ≡ true)) told
    → ((port : ℕ) → among port ≡ true → EndIsLast port told) → starts told ≡ max (count_among among 0 told) (count_among among 1 told)
