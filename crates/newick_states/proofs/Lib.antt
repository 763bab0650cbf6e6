mod LengthBytes
