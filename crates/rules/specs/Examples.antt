-- P1 to P10, "Shown on the definitions": "Mask 1, one attached endpoint, share 2, wide ranges."
use Rattle.std.specs.Prelude.{ℕ, ◌-◌, ◌^◌, ◌≡◌, refl, List, [], ◌∷◌, ◌++◌, replicate}
use mathlib.Core.List as L
use Rattle.std.specs.Int.Count.{count_trailing_zeros}
use Rattle.laws.specs.Lists.{below, sum_below, tab_from}
use Rattle.laws.specs.Bytes.{le_bytes}
use Rattle.laws.specs.Runs.{after, given, every}
use Rattle.rules.specs.declared.Mapping.{Mapping}
use Rattle.rules.specs.Sizes.{endpoint_region_words, table_words}
use Rattle.rules.specs.Answers.{number}
use Rattle.rules.specs.Configuration.{Config, regions_at, region_used, good_settings, good_lists, good_regions, good}
use Rattle.rules.specs.Table.{table_of, before, overlap}
use Rattle.rules.specs.State.{Device, config_of, read, write, state_of, trimmed, trimmed_regions, start, zero_state}
use Rattle.rules.specs.Guests.{own, part, replace, with_records_of}
use Rattle.rules.specs.Requests.{OK, RANGE, NOMEM, ATTACH, MAP, UNMAP}
use Rattle.rules.specs.Handlers.{settle, outside, is_in, domain_exists, listed, of_key, without, leave, enter, move_from, attached, on_region, handle_attach, handle_detach, granularity, form_steps, handle_map, inside, straddles, handle_unmap, handle, bytes_before}
use Rattle.rules.specs.Access.{after_reset}
use Rattle.rules.specs.Sound.{guest, record_good, off_regions, attachment_good, fault_good, zero_from, fault_place_good, sound}
use Rattle.rules.specs.Device.{request, Call, of_guest, Reply, requested, job_rule, rule, caller, work, performed, step, set_up}

-- one guest with a share of 2 and endpoint 8; every address and every domain number is allowed
config : Config
config =
    record {
      settings =
          record {
            guests = 1;
            shares = 2 ∷ 0 ∷ 0 ∷ 0 ∷ [];
            firsts = 0 ∷ 0 ∷ 0 ∷ 0 ∷ [];
            lasts = (2 ^ 64 - 1) ∷ 0 ∷ 0 ∷ 0 ∷ [];
            mask = 1;
            input = record { start = 0; end = 2 ^ 64 - 1 };
            domains = record { start = 0; end = 2 ^ 32 - 1 };
          };
      endpoints = 8 ∷ [];
      owners = 0 ∷ [];
      regions = replicate endpoint_region_words 0;
    }

-- a request of guest 0, with a writable part of four bytes that are not zero
asks : ℕ → List ℕ → Call
asks type fields = of_guest (guest 0) (request (type ∷ 0 ∷ 0 ∷ 0 ∷ fields) (replicate 4 255))

-- endpoint 8 to domain 1
attaches : Call
attaches = asks ATTACH (le_bytes 4 1 ++ le_bytes 4 8 ++ le_bytes 8 0)

-- in domain 1, the addresses from a to b
maps : ℕ → ℕ → Call
maps a b = asks MAP (le_bytes 4 1 ++ le_bytes 8 a ++ le_bytes 8 b ++ le_bytes 8 0x80000000 ++ le_bytes 4 3)

unmaps : ℕ → ℕ → Call
unmaps a b = asks UNMAP (le_bytes 4 1 ++ le_bytes 8 a ++ le_bytes 8 b ++ le_bytes 4 0)

-- the calls after the endpoint is attached; the status of each; the address ranges of the records then held
pub record Example : Type 0 where
  pub calls : List Call
  pub statuses : List ℕ
  pub held : List (ℕ × ℕ)

pub examples : List Example
examples =
    -- "P1 unmap 0–4 of nothing: OK."
    record { calls = unmaps 0 4 ∷ []; statuses = OK ∷ []; held = [] }
    -- "P2 map 0–9, unmap 0–9: gone."
    ∷ record { calls = maps 0 9 ∷ unmaps 0 9 ∷ []; statuses = OK ∷ OK ∷ []; held = [] }
    -- "P3 map 0–4 and 5–9, unmap 0–9: both gone."
    ∷ record { calls = maps 0 4 ∷ maps 5 9 ∷ unmaps 0 9 ∷ []; statuses = OK ∷ OK ∷ OK ∷ []; held = [] }
    -- "P4 map 0–9, unmap 0–4: RANGE, kept."
    ∷ record { calls = maps 0 9 ∷ unmaps 0 4 ∷ []; statuses = OK ∷ RANGE ∷ []; held = (0, 9) ∷ [] }
    -- "P5 as P3, unmap 0–4: first gone."
    ∷ record { calls = maps 0 4 ∷ maps 5 9 ∷ unmaps 0 4 ∷ []; statuses = OK ∷ OK ∷ OK ∷ []; held = (5, 9) ∷ [] }
    -- "P6 map 0–4, unmap 0–9: gone."
    ∷ record { calls = maps 0 4 ∷ unmaps 0 9 ∷ []; statuses = OK ∷ OK ∷ []; held = [] }
    -- "P7 map 0–4 and 10–14, unmap 0–14: both gone."
    ∷ record { calls = maps 0 4 ∷ maps 10 14 ∷ unmaps 0 14 ∷ []; statuses = OK ∷ OK ∷ OK ∷ []; held = [] }
    -- "P8 third MAP: NOMEM."
    ∷ record { calls = maps 0 4 ∷ maps 5 9 ∷ maps 10 14 ∷ []; statuses = OK ∷ OK ∷ NOMEM ∷ []; held = (0, 4) ∷ (5, 9) ∷ [] }
    -- "P9 virt_end = virt_start: RANGE."
    ∷ record { calls = maps 3 3 ∷ []; statuses = RANGE ∷ []; held = [] }
    -- "P10 the sole endpoint attached again to its own domain: records kept."
    ∷ record { calls = maps 0 4 ∷ attaches ∷ []; statuses = OK ∷ OK ∷ []; held = (0, 4) ∷ [] }
    ∷ []

-- the device after an accepted set-up and the attachment
ready : Device
ready = (step (set_up config (replicate table_words 7)).device attaches).1

-- a worked request's number, then its four status bytes
told : Reply → List ℕ
told r = number r.answer ∷ r.buffer

worked_request : ℕ → List ℕ
worked_request status = 0 ∷ status ∷ 0 ∷ 0 ∷ 0 ∷ []

addresses_of : Mapping → ℕ × ℕ
addresses_of r = (r.start, r.end)

-- what the definitions of the device give for an example, and what document 01 wants
pub shown : Example → List (List ℕ) × List (ℕ × ℕ)
shown e = (L.map told (given step every ready e.calls), L.map addresses_of (read (after step ready e.calls)).records)

pub wanted : Example → List (List ℕ) × List (ℕ × ℕ)
wanted e = (L.map worked_request e.statuses, e.held)

-- P1 to P10
pub worked_examples : L.map shown examples ≡ L.map wanted examples
unfolding shown wanted examples config asks attaches maps unmaps ready told worked_request addresses_of below sum_below tab_from count_trailing_zeros good_settings good_lists regions_at region_used good_regions good table_of before overlap config_of read write state_of trimmed trimmed_regions start zero_state own part replace with_records_of settle outside is_in domain_exists listed of_key without leave enter move_from attached on_region handle_attach handle_detach granularity form_steps handle_map inside straddles handle_unmap handle bytes_before after_reset record_good off_regions attachment_good fault_good zero_from fault_place_good sound requested job_rule rule caller work performed step set_up
worked_examples = refl
