-- Worked examples of request 1, reserved regions and PROBE: "what the rules above give", as P1 to P10 are of document 01.
use Rattle.std.specs.Prelude.{ℕ, ◌-◌, ◌^◌, ◌≡◌, refl, List, [], ◌∷◌, ◌++◌, replicate}
use mathlib.Core.List as L
use Rattle.std.specs.Int.Count.{count_trailing_zeros}
use Rattle.laws.specs.Lists.{below, sum_below, tab_from}
use Rattle.laws.specs.Bytes.{le_bytes}
use Rattle.laws.specs.Runs.{given, every}
use Rattle.rules.specs.Sizes.{table_words}
use Rattle.rules.specs.Answers.{number}
use Rattle.rules.specs.Configuration.{Config, regions_at, region_used, good_settings, good_lists, good_regions, good}
use Rattle.rules.specs.Table.{table_of, before, overlap}
use Rattle.rules.specs.State.{Device, config_of, read, write, state_of, trimmed, trimmed_regions, start, zero_state}
use Rattle.rules.specs.Guests.{own, part, replace, with_records_of}
use Rattle.rules.specs.Requests.{OK, UNSUPP, INVAL, RANGE, NOENT, NOMEM, ATTACH, DETACH, MAP, PROBE}
use Rattle.rules.specs.Handlers.{settle, outside, is_in, domain_exists, listed, of_key, without, leave, enter, move_from, attached, on_region, handle_attach, handle_detach, granularity, form_steps, handle_map, inside, straddles, handle_unmap, property_bytes, probed, handle, bytes_before}
use Rattle.rules.specs.Access.{after_reset}
use Rattle.rules.specs.Sound.{guest, record_good, off_regions, attachment_good, fault_good, zero_from, fault_place_good, sound}
use Rattle.rules.specs.Device.{request, Call, of_guest, Reply, requested, job_rule, rule, caller, work, performed, step, set_up}

-- one guest with a share of 1 and domains 0 to 15. Endpoint 8 has an MSI region and a reserved one of a single address, in this
-- order, and endpoint 9 a reserved one; the last place of 9 holds numbers that are not looked at
config : Config
config =
    record {
      settings =
          record {
            guests = 1;
            shares = 1 ∷ 0 ∷ 0 ∷ 0 ∷ [];
            firsts = 0 ∷ 0 ∷ 0 ∷ 0 ∷ [];
            lasts = (2 ^ 64 - 1) ∷ 0 ∷ 0 ∷ 0 ∷ [];
            mask = 1;
            input = record { start = 0; end = 2 ^ 64 - 1 };
            domains = record { start = 0; end = 15 };
          };
      endpoints = 8 ∷ 9 ∷ [];
      owners = 0 ∷ 0 ∷ [];
      regions =
          2 ∷ 1 ∷ 0xfee00000 ∷ 0xfeefffff ∷ 0 ∷ 0x1000 ∷ 0x1000 ∷ 0 ∷ 0 ∷ 0 ∷ 0 ∷ 0 ∷ 0
          ∷ 1 ∷ 0 ∷ 0x5800 ∷ 0x5fff ∷ 0 ∷ 0 ∷ 0 ∷ 0 ∷ 0 ∷ 0 ∷ 7 ∷ 7 ∷ 7 ∷ [];
    }

-- a request of guest 0, with a writable part of so many bytes that are not zero
asks : ℕ → List ℕ → ℕ → Call
asks type fields n = of_guest (guest 0) (request (type ∷ 0 ∷ 0 ∷ 0 ∷ fields) (replicate n 255))

attaches : ℕ → ℕ → Call
attaches e d = asks ATTACH (le_bytes 4 d ++ le_bytes 4 e ++ le_bytes 8 0) 4

detaches : ℕ → ℕ → Call
detaches e d = asks DETACH (le_bytes 4 d ++ le_bytes 4 e ++ le_bytes 8 0) 4

-- in domain d, the addresses from a to b
maps : ℕ → ℕ → ℕ → Call
maps d a b = asks MAP (le_bytes 4 d ++ le_bytes 8 a ++ le_bytes 8 b ++ le_bytes 8 0x80000000 ++ le_bytes 4 3) 4

-- the 64 bytes after the endpoint are ignored
probes : ℕ → Call
probes e = asks PROBE (le_bytes 4 e ++ replicate 64 170) 132

-- a worked request's number, then its writable part as left: a status and three zeros
gets : ℕ → List ℕ
gets status = 0 ∷ status ∷ 0 ∷ 0 ∷ 0 ∷ []

-- of a PROBE: so many properties' bytes, the zeros left over, the status and three zeros
gets_probed : List ℕ → ℕ → ℕ → List ℕ
gets_probed bytes over status = 0 ∷ bytes ++ (replicate over 0 ++ (status ∷ 0 ∷ 0 ∷ 0 ∷ []))

-- calls after set-up, and what each is to be given
pub record Example : Type 0 where
  pub calls : List Call
  pub wants : List (List ℕ)

pub examples : List Example
examples =
    -- "Each, in set-up order, is a property of type 1, length 20: subtype (0 reserved, 1 MSI), three zeros, start, end"
    record {
      calls = probes 8 ∷ [];
      wants =
          gets_probed
          (1 ∷ 0 ∷ 20 ∷ 0 ∷ 1 ∷ 0 ∷ 0 ∷ 0 ∷ 0 ∷ 0 ∷ 0xe0 ∷ 0xfe ∷ 0 ∷ 0 ∷ 0 ∷ 0 ∷ 0xff ∷ 0xff ∷ 0xef ∷ 0xfe ∷ 0 ∷ 0 ∷ 0 ∷ 0
          ∷ 1 ∷ 0 ∷ 20 ∷ 0 ∷ 0 ∷ 0 ∷ 0 ∷ 0 ∷ 0 ∷ 0x10 ∷ 0 ∷ 0 ∷ 0 ∷ 0 ∷ 0 ∷ 0 ∷ 0 ∷ 0x10 ∷ 0 ∷ 0 ∷ 0 ∷ 0 ∷ 0 ∷ 0 ∷ [])
          80 OK
          ∷ [];
    }
    -- "with NOENT (endpoint as in ATTACH) all 128 are written zero"
    ∷ record { calls = probes 7 ∷ []; wants = gets_probed [] 128 NOENT ∷ [] }
    -- "MAP gains a step between 7 and 8": after an overlap with a region comes NOMEM
    ∷ record {
      calls = attaches 8 1 ∷ maps 1 0xfff 0x1000 ∷ maps 1 0x1001 0x1fff ∷ maps 1 0x800 0x1000 ∷ maps 1 0x2000 0x2fff ∷ [];
      wants = gets OK ∷ gets INVAL ∷ gets OK ∷ gets INVAL ∷ gets NOMEM ∷ [];
    }
    -- "a region of any endpoint in the domain": one that is in no domain does not bind domain 0; "whose records overlap the
    -- endpoint's regions is UNSUPP, after the RANGE step"
    ∷ record {
      calls = attaches 8 0 ∷ maps 0 0x5000 0x5800 ∷ attaches 9 0 ∷ attaches 9 16 ∷ attaches 9 1 ∷ [];
      wants = gets OK ∷ gets OK ∷ gets UNSUPP ∷ gets RANGE ∷ gets OK ∷ [];
    }
    -- only endpoints that are in the domain now; UNSUPP "changes nothing": 9 is still in 2
    ∷ record {
      calls = attaches 8 1 ∷ attaches 9 1 ∷ maps 1 0x5fff 0x6000 ∷ detaches 9 1 ∷ maps 1 0x5fff 0x6000 ∷ attaches 9 2 ∷ attaches 9 1 ∷ detaches 9 2 ∷ [];
      wants = gets OK ∷ gets OK ∷ gets INVAL ∷ gets OK ∷ gets OK ∷ gets OK ∷ gets UNSUPP ∷ gets OK ∷ [];
    }
    -- "ATTACH to a domain the endpoint isn't in": again to its own domain is OK
    ∷ record { calls = attaches 9 1 ∷ maps 1 0 0x57ff ∷ attaches 9 1 ∷ []; wants = gets OK ∷ gets OK ∷ gets OK ∷ [] }
    ∷ []

-- the device after set-up
ready : Device
ready = (set_up config (replicate table_words 7)).device

told : Reply → List ℕ
told r = number r.answer ∷ r.buffer

pub shown : Example → List (List ℕ)
shown e = L.map told (given step every ready e.calls)

pub wanted : Example → List (List ℕ)
wanted e = e.wants

pub worked_examples : L.map shown examples ≡ L.map wanted examples
unfolding shown wanted examples config asks attaches detaches maps probes gets gets_probed ready told below sum_below tab_from count_trailing_zeros good_settings good_lists regions_at region_used good_regions good table_of before overlap config_of read write state_of trimmed trimmed_regions start zero_state own part replace with_records_of settle outside is_in domain_exists listed of_key without leave enter move_from attached on_region handle_attach handle_detach granularity form_steps handle_map inside straddles handle_unmap property_bytes probed handle bytes_before after_reset record_good off_regions attachment_good fault_good zero_from fault_place_good sound requested job_rule rule caller work performed step set_up
worked_examples = refl
