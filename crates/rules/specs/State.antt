-- "The state holds the configuration, the live count, whether each endpoint is attached and to which domain (0 where
-- unattached; an attached one may be in domain 0 too), and for each guest a fault log of at most 16 records, oldest first,
-- unused places zero, and a lost count that stops at 65,535. Guest and endpoint places not in use are zero too." "[U]nused region
-- places are zero."
use Rattle.std.specs.Prelude.{ℕ, ◌+◌, ◌*◌, ◌/◌, ◌%◌, ◌≡◌, cond, List, [], ltb, eqb, length, get_or, take, replicate}
use Rattle.std.proofs.Math.Option.{Option, some, none}
use Rattle.laws.specs.Lists.{tab, pad}
use Rattle.rules.specs.declared.Domain.{Domain}
use Rattle.rules.specs.declared.Settings.{Settings}
use Rattle.rules.specs.declared.State.{State}
use Rattle.rules.specs.declared.Mapping.{Mapping}
use Rattle.rules.specs.declared.Fault.{Fault}
use Rattle.rules.specs.Sizes.{max_guests, max_endpoints, endpoint_region_words, region_places, max_faults, fault_places}
use Rattle.rules.specs.Configuration.{Config, share, window_first, window_last, region_used}
use Rattle.rules.specs.Table.{records, table_of}

-- whether an endpoint is attached, and to which domain
abbrev pub Attachment : Type 0
Attachment = Option Domain

-- a guest's fault log, oldest first, and its lost count
pub record Log : Type 0 where
  pub faults : List Fault
  pub lost : ℕ

abbrev pub no_fault : Fault
no_fault = record { reason = 0; flags = 0; endpoint = record { 0 = 0 }; address = 0 }

abbrev pub no_log : Log
no_log = record { faults = []; lost = 0 }

-- what calls change: the attachment of each listed endpoint, the live records, a log for each guest
pub record World : Type 0 where
  pub attachments : List Attachment
  pub records : List Mapping
  pub logs : List Log

-- state and table, as the functions take them and give them back
pub record Device : Type 0 where
  pub state : State
  pub table : List ℕ

-- READING: what the state's and the table's numbers say

-- the configuration that a state holds
unfoldable pub config_of : State → Config
config_of s =
    record {
      settings = s.settings;
      endpoints = take s.listed s.endpoints;
      owners = take s.listed s.owners;
      regions = take (endpoint_region_words * s.listed) s.regions;
    }

-- an attached flag of 1, with the domain beside it, is an attachment
abbrev pub attachment : ℕ → ℕ → Attachment
attachment flag d = cond (eqb flag 1) (some (record { 0 = d })) none

abbrev pub attachment_at : State → ℕ → Attachment
attachment_at s i = attachment (get_or s.attached i 0) (get_or s.domains i 0)

-- the domain beside an attached flag
abbrev pub domain_at : State → ℕ → Domain
domain_at s i = record { 0 = get_or s.domains i 0 }

abbrev pub fault_at : State → ℕ → Fault
fault_at s i =
    record {
      reason = get_or s.reasons i 0;
      flags = get_or s.flags i 0;
      endpoint = record { 0 = get_or s.sources i 0 };
      address = get_or s.addresses i 0;
    }

abbrev pub log_at : State → ℕ → Log
log_at s g = record { faults = tab (get_or s.logged g 0) (λ j. fault_at s (max_faults * g + j)); lost = get_or s.lost g 0 }

unfoldable pub read : Device → World
read d =
    record {
      attachments = tab d.state.listed (attachment_at d.state);
      records = take d.state.live (records d.table);
      logs = tab d.state.settings.guests (log_at d.state);
    }

-- WRITING: the state and the table that say it, unused places zero

-- the settings with the places of guests that are not in use zero
unfoldable pub trimmed : Settings → Settings
trimmed s =
    record {
      guests = s.guests;
      shares = tab max_guests (λ g. cond (ltb g s.guests) (share s g) 0);
      firsts = tab max_guests (λ g. cond (ltb g s.guests) (window_first s g) 0);
      lasts = tab max_guests (λ g. cond (ltb g s.guests) (window_last s g) 0);
      mask = s.mask;
      input = s.input;
      domains = s.domains;
    }

-- the words of the regions of n endpoints, with those that are not in use zero
unfoldable pub trimmed_regions : ℕ → List ℕ → List ℕ
trimmed_regions n words = tab region_places (λ k. cond (region_used n words k) (get_or words k 0) 0)

-- an attachment's flag and domain, "0 where unattached"
abbrev pub flag_of : Attachment → ℕ
flag_of none = 0
flag_of (some d) = 1

abbrev pub number_of : Attachment → ℕ
number_of none = 0
number_of (some d) = d.0

-- the log of guest g, and the fault at place i: fault i % 16 of guest i / 16
abbrev pub log_of : World → ℕ → Log
log_of w g = get_or w.logs g no_log

abbrev pub fault_placed : World → ℕ → Fault
fault_placed w i = get_or (log_of w (i / max_faults)).faults (i % max_faults) no_fault

unfoldable pub state_of : Config → World → State
state_of c w =
    record {
      settings = trimmed c.settings;
      listed = length c.endpoints;
      endpoints = pad max_endpoints 0 c.endpoints;
      owners = pad max_endpoints 0 c.owners;
      attached = tab max_endpoints (λ i. flag_of (get_or w.attachments i none));
      domains = tab max_endpoints (λ i. number_of (get_or w.attachments i none));
      regions = trimmed_regions (length c.endpoints) c.regions;
      live = length w.records;
      logged = tab max_guests (λ g. length (log_of w g).faults);
      lost = tab max_guests (λ g. (log_of w g).lost);
      reasons = tab fault_places (λ i. (fault_placed w i).reason);
      flags = tab fault_places (λ i. (fault_placed w i).flags);
      sources = tab fault_places (λ i. (fault_placed w i).endpoint.0);
      addresses = tab fault_places (λ i. (fault_placed w i).address);
    }

unfoldable pub write : Config → World → Device
write c w = record { state = state_of c w; table = table_of w.records }

-- "all unattached, logs empty"
unfoldable pub start : Config → World
start c = record { attachments = replicate (length c.endpoints) none; records = []; logs = replicate c.settings.guests no_log }

-- "the state given back has every number zero"
unfoldable pub zero_state : State
zero_state =
    record {
      settings =
          record {
            guests = 0;
            shares = replicate max_guests 0;
            firsts = replicate max_guests 0;
            lasts = replicate max_guests 0;
            mask = 0;
            input = record { start = 0; end = 0 };
            domains = record { start = 0; end = 0 };
          };
      listed = 0;
      endpoints = replicate max_endpoints 0;
      owners = replicate max_endpoints 0;
      attached = replicate max_endpoints 0;
      domains = replicate max_endpoints 0;
      regions = replicate region_places 0;
      live = 0;
      logged = replicate max_guests 0;
      lost = replicate max_guests 0;
      reasons = replicate fault_places 0;
      flags = replicate fault_places 0;
      sources = replicate fault_places 0;
      addresses = replicate fault_places 0;
    }

-- the lengths of the state's arrays, which their types fix
pub record Lengths (s : State) : Type 0 where
  pub shares : length s.settings.shares ≡ max_guests
  pub firsts : length s.settings.firsts ≡ max_guests
  pub lasts : length s.settings.lasts ≡ max_guests
  pub endpoints : length s.endpoints ≡ max_endpoints
  pub owners : length s.owners ≡ max_endpoints
  pub attached : length s.attached ≡ max_endpoints
  pub domains : length s.domains ≡ max_endpoints
  pub regions : length s.regions ≡ region_places
  pub logged : length s.logged ≡ max_guests
  pub lost : length s.lost ≡ max_guests
  pub reasons : length s.reasons ≡ fault_places
  pub flags : length s.flags ≡ fault_places
  pub sources : length s.sources ≡ fault_places
  pub addresses : length s.addresses ≡ fault_places
