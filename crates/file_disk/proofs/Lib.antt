mod RecordValues
